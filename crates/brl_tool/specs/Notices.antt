-- The lines of a table's notices. The project's own choice.
use Rattle.std.specs.Prelude.{ℕ, ◌==◌, false, if◌then◌else◌, List, [], ◌∷◌, ◌++◌, codes, flat_map, length}
use Rattle.std.specs.Str.{encode_utf8_all}
use Rattle.brl_lines.specs.Spelling.{text_spelling}
use Rattle.brl_report.specs.Place.{place_text}
use Rattle.brl_report.specs.Survey.{characters_note}
use Rattle.brl_rules.specs.TableView.{TableView}
use Rattle.brl_rules.specs.declared.rule.Notice.{Notice}

-- the line of a notice: a line of the table defines this character again
abbrev pub notice_line : TableView → Notice → List ℕ
notice_line t notice =
    codes "notice DefinedAgain " ++ encode_utf8_all (text_spelling (notice.character ∷ [])) ++ codes " at " ++ place_text t notice.file notice.line ++ codes "\n"

-- the lines of all notices, in their order
abbrev pub notice_lines : TableView → List ℕ
notice_lines t = flat_map (notice_line t) t.notices

-- the line that no line of a table defines a character; empty where one does
abbrev pub no_character_line : TableView → List ℕ
no_character_line t = if length t.characters == 0 then characters_note false else []
