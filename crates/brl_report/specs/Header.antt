-- The first lines of a report. The project's own choice.
use Rattle.std.specs.Prelude.{ℕ, List, ◌++◌, codes, encode_utf8_all}
use Rattle.brl_cells.specs.Dots.{spelling}
use Rattle.brl_lines.specs.Spelling.{text_spelling}

-- the line of a text with this name, spelled as in an operand
abbrev pub text_line : List ℕ → List ℕ → List ℕ
text_line name text = name ++ codes ": " ++ encode_utf8_all (text_spelling text) ++ codes "\n"

-- the line of cells, in dots
abbrev pub cells_line : List ℕ → List ℕ
cells_line cells = codes "cells: " ++ spelling cells ++ codes "\n"
