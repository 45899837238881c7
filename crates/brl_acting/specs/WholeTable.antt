-- The lines of a whole table: which its cut keeps, which are one line with a neighbour, and which
-- can act. The project's own choice.
use Rattle.std.specs.Prelude.{ℕ, ◌≡◌, ◌+◌, ◌&&◌, ◌||◌, ◌==◌, Bool, true, false, List, [], ◌∷◌, ◌++◌, codes, filter, flat_map, if◌then◌else◌, map, nat_eq, not, slice_get, string_bytes}
use Rattle.std.specs.List.{ends_with, enumerate_from, list_any, slice_split}
use Rattle.std.specs.Option.{option_map_or}
use Rattle.std.specs.Str.{bytes_eq}
use Rattle.brl_lines.specs.Gathering.{GatheredView, LeftView}
use Rattle.brl_lines.specs.Lines.{LocationView, location_of}
use Rattle.brl_lines.specs.Tokens.{LineView}
use Rattle.brl_lines.specs.Views.{location_view}
use Rattle.brl_lines.specs.declared.gathering.GatheredFile.{GatheredFile}
use Rattle.brl_lines.specs.declared.way.IncludeReason.{IncludeReason}
use Rattle.brl_lines.specs.declared.way.IncludeReason.TheVariants.{Missing}
use Rattle.brl_table.specs.Survey.{FaultyLineView}
use Rattle.brl_acting.specs.Acting.{acting_lines}
use Rattle.brl_acting.specs.Words.{TableLineView, opcode_of}
use Rattle.brl_acting.specs.declared.whole_table.ActingLine.{ActingLine}
use Rattle.brl_acting.specs.declared.whole_table.Place.{Place}

-- ---- Places

-- the place of a line: the path of its file, and its number from 1
abbrev pub line_place : LineView → List ℕ × ℕ
line_place line = (line.file, line.line)

abbrev pub left_out_place : FaultyLineView → List ℕ × ℕ
left_out_place faulty = (faulty.fault.file, faulty.fault.line)

-- two places are the same
abbrev pub is_place : List ℕ × ℕ → List ℕ × ℕ → Bool
is_place x y = nat_eq x.1 y.1 && bytes_eq x.0 y.0

-- a place is one of these
abbrev pub has_place : List (List ℕ × ℕ) → List ℕ × ℕ → Bool
has_place places place = list_any (is_place place) places

-- ---- Rows that go on

-- the rows of a file
abbrev pub rows_of : List ℕ → List (List ℕ)
rows_of bytes = slice_split (λ b. b == 10) bytes

-- a row ends with a backslash, so that for liblouis the next one belongs to it
abbrev pub goes_on : List ℕ → Bool
goes_on row = ends_with nat_eq row (92 ∷ []) || ends_with nat_eq row (92 ∷ 13 ∷ [])

-- the place of a row, counted from 0, of the file at a path that goes on, and that of the next one
abbrev pub continued_at : List ℕ → ℕ × List ℕ → List (List ℕ × ℕ)
continued_at path row = if goes_on row.1 then (path, row.0 + 1) ∷ (path, row.0 + 2) ∷ [] else []

-- the places of rows of a file that are one line with a neighbour
abbrev pub continued_places : List ℕ × List ℕ → List (List ℕ × ℕ)
continued_places file = flat_map (continued_at file.0) (enumerate_from 0 (rows_of file.1))

-- ---- Lines

-- A line of a table. Lines at the places `left_out` are left out. For liblouis, lines at the places
-- `continued` are joined with a neighbour.
abbrev pub table_line : List (List ℕ × ℕ) → List (List ℕ × ℕ) → LineView → TableLineView
table_line left_out continued line = record {
  line = line;
  kept = not (has_place left_out (line_place line));
  continued = has_place continued (line_place line);
}

-- an include line that is left out, without its operand
abbrev pub include_line : LeftView → LineView
include_line left = record { file = left.file; line = left.line; opcode = record { text = codes "include"; start = 0 }; operands = [] }

-- its file isn't there
abbrev pub is_missing_file : IncludeReason → Bool
is_missing_file Missing = true
is_missing_file other = false

abbrev pub is_missing : LeftView → Bool
is_missing left = is_missing_file left.reason

abbrev pub missing_lines : List LeftView → List LineView
missing_lines left_out = map include_line (filter is_missing left_out)

-- ---- Lines that can act

-- a line that can act: its opcode, its place, and whether it is kept
pub record ActingView : Type 0 where
  pub opcode : List ℕ
  pub place : LocationView
  pub kept : Bool

abbrev pub acting_line : TableLineView → ActingView
acting_line at = record { opcode = opcode_of at.line; place = location_of at.line; kept = at.kept }

-- the line at a place
abbrev pub line_at : List TableLineView → ℕ → List ActingView
line_at lines place = option_map_or (λ line. acting_line line ∷ []) (slice_get lines place) []

abbrev pub taken_lines : List TableLineView → List ℕ → List ActingView
taken_lines lines places = flat_map (line_at lines) places

-- Lines that are left out of a file that isn't one of the table's: a cut has made it. Each can act.
abbrev pub is_in_files : GatheredView → FaultyLineView → Bool
is_in_files gathered faulty = list_any (λ file. bytes_eq file.0 faulty.fault.file) gathered.files

abbrev pub made_line : FaultyLineView → ActingView
made_line faulty = record { opcode = faulty.opcode; place = record { file = faulty.fault.file; line = faulty.fault.line }; kept = false }

abbrev pub made_lines : GatheredView → List FaultyLineView → List ActingView
made_lines gathered left_out = map made_line (filter (λ faulty. not (is_in_files gathered faulty)) left_out)

-- which of these lines can act on texts over an alphabet
abbrev pub acting_among : List TableLineView → List ℕ → List ActingView
acting_among lines alphabet = taken_lines lines (acting_lines lines alphabet)

-- which of these lines can act on texts over an alphabet, where lines at some places are left out,
-- and lines at others are one with a neighbour
abbrev pub acting_in : List (List ℕ × ℕ) → List (List ℕ × ℕ) → List LineView → List ℕ → List ActingView
acting_in left_out continued lines alphabet = acting_among (map (table_line left_out continued) lines) alphabet

-- the lines of a whole table that can act on texts over an alphabet, where its cut leaves these
-- out: of all its lines, and of the include lines whose file isn't there; and lines of a file that
-- the cut has made
abbrev pub acting_of_table : List LineView → GatheredView → List FaultyLineView → List ℕ → List ActingView
acting_of_table whole gathered left_out alphabet =
    acting_in (map left_out_place left_out) (flat_map continued_places gathered.files) (whole ++ missing_lines gathered.left_out) alphabet ++ made_lines gathered left_out

-- ---- As the code has them

abbrev pub place_view : Place → List ℕ × ℕ
place_view place = (place.path.now, place.line)

-- a place is one of those of a set
abbrev pub is_key : List Place → List ℕ × ℕ → Bool
is_key keys place = list_any (λ key. is_place place (place_view key)) keys

-- a set has just these places
abbrev pub Holds : List (List ℕ × ℕ) → List Place → Type 0
Holds places keys = (place : List ℕ × ℕ) → is_key keys place ≡ has_place places place

abbrev pub file_view : GatheredFile → List ℕ × List ℕ
file_view file = (string_bytes file.path, file.bytes.items)

abbrev pub acting_view : ActingLine → ActingView
acting_view line = record { opcode = string_bytes line.opcode; place = location_view line.place; kept = line.kept }
