-- Cells as a dots operand (liblouis User's and Programmer's Manual, "How to Write Translation
-- Tables", on dots operands). A cell is its number: dot d adds 2 ^ (d - 1), and the blank cell is
-- 0. A text is the list of its bytes. That a cell has no dots but 1 to 8, and none of them twice,
-- is the project's own choice, and so is the order of the faults.
use Rattle.std.specs.Prelude.{ℕ, ◌-◌, ◌^◌, ◌<◌, Bool, not, nat_le, ◌==◌, if◌then◌else◌, List, [], ◌∷◌, ◌++◌, length, map, filter, Option, Some, None, Result, Ok, Err, codes, bytes_eq}
use Rattle.std.specs.Int.{bit_at}
use Rattle.std.specs.List.{All, join_with_byte, list_any, slice_split, sum_by}
use Rattle.brl_failure.specs.Failure.{◌>>=◌}
use Rattle.brl_cells.specs.declared.fault.DotsFault.{DotsFault}
use Rattle.brl_cells.specs.declared.fault.DotsFault.TheVariants.{EmptyCell, BadDot, RepeatedDot, TooManyCells}

-- the marks of the dots, in ascending order
abbrev pub dot_marks : List ℕ
dot_marks = codes "12345678"

-- the number of the cell with the dot of this mark alone
abbrev pub dot_number : ℕ → ℕ
dot_number mark = 2 ^ (mark - 49)

-- the numbers are cells: each has no dots but 1 to 8
abbrev pub AreCells : List ℕ → Type 0
AreCells cells = All (λ cell. cell < 256) cells

-- ---- Spelling

-- whether a cell has the dot of this mark
abbrev pub has_dot : ℕ → ℕ → Bool
has_dot cell mark = bit_at cell (mark - 49) == 1

-- the marks of a cell's dots in ascending order, and `0` for the blank cell
abbrev pub cell_spelling : ℕ → List ℕ
cell_spelling cell = if cell == 0 then codes "0" else filter (has_dot cell) dot_marks

-- the spelling of cells: the marks of each, joined by hyphens
abbrev pub spelling : List ℕ → List ℕ
spelling cells = join_with_byte 45 (map cell_spelling cells)

-- ---- Reading

-- whether a mark is one of these
abbrev pub is_among : List ℕ → ℕ → Bool
is_among marks mark = list_any (λ m. m == mark) marks

-- the fault of a mark that follows these in its cell
abbrev pub mark_fault : List ℕ → ℕ → Option DotsFault
mark_fault before mark =
    if not (is_among dot_marks mark) then Some BadDot
    else (if is_among before mark then Some RepeatedDot else None)

-- the first of two faults
abbrev pub first_of_two : Option DotsFault → Option DotsFault → Option DotsFault
first_of_two (Some fault) later = Some fault
first_of_two None later = later

-- the first fault of marks that follow others in their cell
abbrev pub first_fault : List ℕ → List ℕ → Option DotsFault
first_fault before [] = None
first_fault before (mark ∷ marks) = first_of_two (mark_fault before mark) (first_fault (before ++ mark ∷ []) marks)

-- the cell, unless there is a fault
abbrev pub unless_fault : Option DotsFault → ℕ → Result ℕ DotsFault
unless_fault None cell = Ok cell
unless_fault (Some fault) cell = Err fault

-- the cell that marks spell, in any order, or their first fault
abbrev pub cell_reading : List ℕ → Result ℕ DotsFault
cell_reading marks =
    if length marks == 0 then Err EmptyCell
    else (if bytes_eq marks (codes "0") then Ok 0
    else unless_fault (first_fault [] marks) (sum_by dot_number marks))

-- the cells that the parts of a text spell, or the fault of the first faulty part
abbrev pub cells_reading : List (List ℕ) → Result (List ℕ) DotsFault
cells_reading [] = Ok []
cells_reading (part ∷ parts) = do
  cell ← cell_reading part
  cells ← cells_reading parts
  Ok (cell ∷ cells)

-- the parts of a text between its hyphens
abbrev pub parts : List ℕ → List (List ℕ)
parts bytes = slice_split (λ mark. mark == 45) bytes

-- the cells that a text spells, at most `most`, or its first fault
abbrev pub reading : ℕ → List ℕ → Result (List ℕ) DotsFault
reading most bytes = do
  cells ← cells_reading (parts bytes)
  if nat_le (length cells) most then Ok cells else Err TooManyCells
