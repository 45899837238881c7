-- The lines of a table that was cut that can act on texts of an alphabet, and their report. The
-- project's own choice.
use Rattle.std.specs.Prelude.{ℕ, ◌≡◌, ◌==◌, Bool, not, if◌then◌else◌, List, [], ◌++◌, codes, count_by, decimal, filter, flat_map, length, map, nat_lt, take, bytes_eq}
use Rattle.std.specs.List.{enumerate_from, list_any}
use Rattle.brl_acting.specs.WholeTable.{ActingView, acting_of_table}
use Rattle.brl_answers.specs.Answers.{with_alphabet_line}
use Rattle.brl_clashes.specs.Kinds.{kept}
use Rattle.brl_cut.specs.declared.outcome.CutTable.{CutTable}
use Rattle.brl_lines.specs.GatherFaults.{gathered_view}
use Rattle.brl_lines.specs.Lines.{LocationView}
use Rattle.brl_table.specs.Survey.{faulty_line_view}
use Rattle.brl_without.specs.Alphabet.{AlphabetView, HasAll, left_out_by}

-- ---- Which lines can act

-- the lines of the whole table that can act on texts of these characters
abbrev pub acting_on : CutTable → List ℕ → List ActingView
acting_on of characters = acting_of_table of.whole.lines (gathered_view of.gathered) (map faulty_line_view of.cut.left_out.items) characters

-- the lines that can act on texts of an alphabet, of a table whose cut has all its characters
abbrev pub AreActing : AlphabetView → CutTable → List ActingView → Type 0
AreActing alphabet of acting = HasAll of.table alphabet × (acting ≡ acting_on of (kept of.table (left_out_by of.table alphabet)))

-- the places of those that a cut leaves out
abbrev pub left_out_places : List ActingView → List LocationView
left_out_places acting = map (λ line. line.place) (filter (λ line. not line.kept) acting)

-- ---- The report

-- one of these lines has an opcode
abbrev pub has_opcode : List ActingView → List ℕ → Bool
has_opcode lines opcode = list_any (λ line. bytes_eq opcode line.opcode) lines

-- how many of these lines have an opcode
abbrev pub count_of : List ActingView → List ℕ → ℕ
count_of lines opcode = count_by (λ line. bytes_eq opcode line.opcode) lines

-- no line before a place has an opcode
abbrev pub is_first : List ActingView → ℕ → List ℕ → Bool
is_first lines place opcode = not (has_opcode (take place lines) opcode)

-- how many lines are of an opcode, and where the first one is
abbrev pub count_text : List ℕ → ℕ → List ℕ
count_text opcode count = codes "can act: opcode " ++ opcode ++ codes ": " ++ decimal count

abbrev pub place_text : LocationView → List ℕ
place_text place = codes ", the first at " ++ place.file ++ codes ":" ++ decimal place.line ++ codes "\n"

-- how many of the lines have the opcode of this one, which is the first
abbrev pub opcode_text : List ActingView → ActingView → List ℕ
opcode_text lines line = count_text line.opcode (count_of lines line.opcode) ++ place_text line.place

abbrev pub text_at : List ActingView → ℕ × ActingView → List ℕ
text_at lines at = if is_first lines at.0 at.1.opcode then opcode_text lines at.1 else []

-- for each opcode of these lines how many there are, and where the first one is
abbrev pub acting_text : List ActingView → List ℕ
acting_text lines = flat_map (text_at lines) (enumerate_from 0 lines)

-- the last line: that no line can act, so that verdicts of a cut on texts of the alphabet hold of
-- the whole table; or how many can
abbrev pub idle_line : List ℕ → List ℕ → List ℕ
idle_line cut path = codes "no line can act on these texts: what --only decides of " ++ cut ++ codes " holds of " ++ path ++ codes "\n"

abbrev pub line_word : ℕ → List ℕ
line_word lines = if lines == 1 then codes " line" else codes " lines"

abbrev pub acting_line : ℕ → List ℕ
acting_line acting = decimal acting ++ line_word acting ++ codes " can act on these texts\n"

abbrev pub last_line : List ℕ → List ℕ → ℕ → List ℕ
last_line cut path acting = if nat_lt 0 acting then acting_line acting else idle_line cut path

-- a report with the alphabet, the lines that can act, and what they say of a cut and of the table
-- at a path
abbrev pub with_acting : AlphabetView → List ActingView → List ℕ → List ℕ → List ℕ → List ℕ
with_acting alphabet acting cut path report = with_alphabet_line alphabet report ++ acting_text acting ++ last_line cut path (length acting)
