-- The characters that are written for a cell: a mark of North American Braille ASCII, or a
-- character of the Unicode block Braille Patterns. The choice of these two is the project's own.
use Rattle.std.specs.Prelude.{ℕ, ◌+◌, List, [], ◌∷◌, ◌++◌, codes, map, Option, Some, slice_get}

-- the marks of North American Braille ASCII, by the numbers of their cells, 0 to 63
abbrev pub braille_ascii : List ℕ
braille_ascii =
    codes " A1B'K2L@CIF/MSP"
    ++ codes "\"E3H9O6R^DJG>NTQ"
    ++ codes ",*5<-U8V.%[$+X!&"
    ++ codes ";:4\\0Z7(_?W]#Y)="

-- the mark of a cell; cells with dot 7 or 8 have none
unfoldable pub ascii_mark : ℕ → Option ℕ
ascii_mark cell = slice_get braille_ascii cell

-- the cells of the first ten letters: dots 1, 12, 14, 145, 15, 124, 1245, 125, 24, 245
abbrev pub first_decade : List ℕ
first_decade = 1 ∷ 3 ∷ 9 ∷ 25 ∷ 17 ∷ 11 ∷ 27 ∷ 19 ∷ 10 ∷ 26 ∷ []

-- the marks of these cells
abbrev pub ascii_marks : List ℕ → List (Option ℕ)
ascii_marks cells = map ascii_mark cells

-- these marks, each as that of a cell
abbrev pub marked : List ℕ → List (Option ℕ)
marked marks = map (λ m. Some m) marks

-- the code point of a cell
abbrev pub unicode_mark : ℕ → ℕ
unicode_mark cell = 0x2800 + cell
