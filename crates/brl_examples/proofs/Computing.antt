-- What examples are computed with.
use Rattle.std.specs.Prelude.{ℕ, List}
use Rattle.std.specs.Str.{chars, is_utf8}
use lib.Utf8.{encode}
use Rattle.brl_lines.specs.Lines.{follow, lines_over, text_in}
use Rattle.brl_lines.specs.Tokens.{lines_in}

-- a proof that unfolds this can compute the lines of a table in memory
unfoldable pub of_lines : List ℕ → List ℕ
unfolding lines_over follow text_in lines_in is_utf8 chars encode
of_lines text = text
