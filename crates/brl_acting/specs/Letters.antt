-- The letters of a table, and those before which `letsign` may stand. The manual has `letsign` and
-- `noletsign` in section "Braille Indicator Opcodes".
use Rattle.std.specs.Prelude.{ℕ, ◌&&◌, ◌||◌, Bool, true, false, not, List, codes, map}
use Rattle.brl_lines.specs.Tokens.{LineView}
use Rattle.brl_acting.specs.Classes.{classes_of, members, noletsigns_of}
use Rattle.brl_acting.specs.Sets.{is_in, set_view}
use Rattle.brl_acting.specs.Words.{LineParts, TableLineView, parts_of}
use Rattle.brl_acting.specs.declared.letters.Letters.{Letters as LettersOfCode}

-- whether a character is a letter, and whether `letsign` may stand before it
pub record Letters : Type 0 where
  pub is_letter : ℕ → Bool
  pub takes_sign : ℕ → Bool

-- a line, as a cut has it that leaves none out
abbrev pub table_line : LineView → TableLineView
table_line line = record { line = line; kept = true; continued = false }

-- Of the parts of lines. Before a capital the sign may be, too; but a `word` rule of one would be
-- one of its small letter.
abbrev pub letters_by : List LineParts → Letters
letters_by lines =
    let pairs = classes_of lines in
    record {
      is_letter = is_in (members (codes "letter") pairs);
      takes_sign = λ c. is_in (members (codes "letter") pairs) c && not (is_in (members (codes "uppercase") pairs) c || is_in (noletsigns_of lines) c);
    }

-- of lines
abbrev pub letters_of : List LineView → Letters
letters_of lines = letters_by (map parts_of (map table_line lines))

abbrev pub letters_view : LettersOfCode → Letters
letters_view letters = record {
  is_letter = set_view letters.letters;
  takes_sign = λ c. set_view letters.letters c && not (set_view letters.without_sign c);
}
