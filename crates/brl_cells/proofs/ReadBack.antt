-- Spelled cells are read back, and whatever is read are cells.
use Rattle.std.proofs.Common.{◌≡◌, ℕ, zero, suc, ◌+◌, ◌<◌, ◌≤◌, Bool, true, false, ◌&&◌, eqb, ltb, All, List, [], ◌∷◌, length, map, Result, Ok, Err, refl, sym, ap, ◌∙◌, inl, inr, arith}
use Rattle.std.specs.Cmp.{first_so, second_so}
use Rattle.std.specs.List.{AllByRecursion, list_all}
use Rattle.std.proofs.lemmas.Bool.{cases_eq}
use Rattle.std.proofs.lemmas.Bool.Decides.{Decides-eqb, nat_tests}
use Rattle.std.proofs.lemmas.List.Elements.{All-from_recursion, recursion_from_All}
use Rattle.std.proofs.lemmas.List.Splits.{slice_split_none, slice_split_at}
use Rattle.brl_cells.specs.declared.fault.DotsFault.{DotsFault}
use Rattle.brl_cells.specs.Dots.{AreCells, cell_spelling, spelling, cell_reading, cells_reading, parts, reading}
use Rattle.brl_cells.proofs.Parts.{reading_is}

-- ---- One cell, by trying each

abbrev is_cell : ℕ → Result ℕ DotsFault → Bool
is_cell cell (Ok read) = eqb read cell
is_cell cell (Err fault) = false

abbrev no_hyphen : List ℕ → Bool
no_hyphen marks = list_all (λ m. ltb 45 m) marks

abbrev try : ℕ → Bool
try cell = is_cell cell (cell_reading (cell_spelling cell)) && no_hyphen (cell_spelling cell)

abbrev try_below : ℕ → Bool
try_below zero = true
try_below (suc n) = try n && try_below n

tried : try_below 256 ≡ true
tried = refl

below : (n cell : ℕ) → cell < n → try_below n ≡ true → try cell ≡ true
below zero cell lt h = absurd (omega arith)
below (suc n) cell lt h =
    elim (cases_eq cell n) [
      | inl e ↦ ap try e ∙ first_so (try n) (try_below n) h
      | inr ne ↦ below n cell (omega arith) (second_so (try n) (try_below n) h)
    ]

is_read : (cell : ℕ) (read : Result ℕ DotsFault) → is_cell cell read ≡ true → read ≡ Ok cell
is_read cell (Ok n) h = ap (λ (k : ℕ). Ok k) ((Decides-eqb n cell).0 h)
is_read cell (Err fault) h = absurd cc

cell_again : (cell : ℕ) → cell < 256 → cell_reading (cell_spelling cell) ≡ Ok cell
cell_again cell lt = is_read cell (cell_reading (cell_spelling cell)) (first_so (is_cell cell (cell_reading (cell_spelling cell))) (no_hyphen (cell_spelling cell)) (below 256 cell lt tried))

apart : (marks : List ℕ) → no_hyphen marks ≡ true → All (λ m. eqb m 45 ≡ false) marks
apart marks h = All-from_recursion (λ m. eqb m 45 ≡ false) marks (by_cases marks h)
  where
    by_cases : (ms : List ℕ) → no_hyphen ms ≡ true → AllByRecursion (λ m. eqb m 45 ≡ false) ms
    by_cases [] h = tt
    by_cases (m ∷ ms) h = ((let above : ltb 45 m ≡ true = first_so (ltb 45 m) (no_hyphen ms) h in grind (arith, nat_tests)), by_cases ms (second_so (ltb 45 m) (no_hyphen ms) h))

cell_apart : (cell : ℕ) → cell < 256 → All (λ m. eqb m 45 ≡ false) (cell_spelling cell)
cell_apart cell lt = apart (cell_spelling cell) (second_so (is_cell cell (cell_reading (cell_spelling cell))) (no_hyphen (cell_spelling cell)) (below 256 cell lt tried))

-- ---- Cells

-- the parts of a spelling are the spellings of the cells
parts-spelling : (cell : ℕ) (cells : List ℕ) → AllByRecursion (λ c. c < 256) (cell ∷ cells) → parts (spelling (cell ∷ cells)) ≡ map cell_spelling (cell ∷ cells)
parts-spelling cell [] are = slice_split_none (λ m. eqb m 45) (cell_spelling cell) (cell_apart cell are.0)
parts-spelling cell (next ∷ cells) are =
    slice_split_at (λ m. eqb m 45) (cell_spelling cell) 45 (spelling (next ∷ cells)) (cell_apart cell are.0) refl ∙ ap (λ (ps : List (List ℕ)). cell_spelling cell ∷ ps) (parts-spelling next cells are.1)

cells_again : (cells : List ℕ) → AllByRecursion (λ c. c < 256) cells → cells_reading (map cell_spelling cells) ≡ Ok cells
cells_again [] are = refl
cells_again (cell ∷ cells) are = rw (cell_again cell are.0, cells_again cells are.1) refl

-- the spelling of one cell or more is read as these cells
pub spelled_cells_are_read : (most : ℕ) (cells : List ℕ) → AreCells cells → 1 ≤ length cells → length cells ≤ most → reading most (spelling cells) ≡ Ok cells
spelled_cells_are_read most [] are some le = absurd (omega arith)
spelled_cells_are_read most (cell ∷ cells) are some le =
    let all = recursion_from_All (λ c. c < 256) (cell ∷ cells) are in
    reading_is most (spelling (cell ∷ cells)) (cell ∷ cells) le (ap cells_reading (parts-spelling cell cells all) ∙ cells_again (cell ∷ cells) all)

-- only no cells have the empty text as their spelling
not_empty : (cell : ℕ) (cells : List ℕ) → AreCells (cell ∷ cells) → spelling (cell ∷ cells) ≡ [] → ⊥
not_empty cell cells are e =
    let again = spelled_cells_are_read (length (cell ∷ cells)) (cell ∷ cells) are (omega arith) (omega arith) in
    let none : reading (length (cell ∷ cells)) [] ≡ Ok (cell ∷ cells) = ap (reading (length (cell ∷ cells))) (sym e) ∙ again in
    cc

-- lists of cells with the same spelling are equal
pub cells_have_one_spelling : (left right : List ℕ) → AreCells left → AreCells right → spelling left ≡ spelling right → left ≡ right
cells_have_one_spelling [] [] are_left are_right e = refl
cells_have_one_spelling [] (cell ∷ cells) are_left are_right e = absurd (not_empty cell cells are_right (sym e))
cells_have_one_spelling (cell ∷ cells) [] are_left are_right e = absurd (not_empty cell cells are_left e)
cells_have_one_spelling (cell ∷ cells) (other ∷ others) are_left are_right e =
    let most = suc (length cells + length others) in
    let left = spelled_cells_are_read most (cell ∷ cells) are_left (omega arith) (omega arith) in
    let right = spelled_cells_are_read most (other ∷ others) are_right (omega arith) (omega arith) in
    let same : Ok (cell ∷ cells) ≡ Ok (other ∷ others) = sym left ∙ ap (reading most) e ∙ right in
    cc
