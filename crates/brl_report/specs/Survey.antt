-- The report of a survey: the faulty lines of a table, how many there are of each opcode and whose
-- opcode that is, and how many lines are read, of each file and of all. The project's own choice.
use Rattle.std.specs.Prelude.{ℕ, ◌≡◌, ◌+◌, ◌-◌, Bool, if◌then◌else◌, nat_lt, List, [], ◌++◌, codes, count_by, flat_map, length, map, decimal, IsPermutation, IsSorted, bytes_eq}
use Rattle.std.specs.Cmp.Lexicographic.{slice_cmp}
use Rattle.std.specs.Ordering.{flip_args, nat_cmp, on, then_cmp}
use Rattle.std.specs.declared.cmp.Ordering.{Ordering}
use Rattle.brl_lines.specs.Gathering.{LeftView}
use Rattle.brl_lines.specs.Tokens.{LineView}
use Rattle.brl_table.specs.FaultText.{fault_text}
use Rattle.brl_table.specs.Reading.{dedup}
use Rattle.brl_table.specs.Liblouis.{origin_of}
use Rattle.brl_table.specs.Survey.{FaultyLineView, FindingsView}
use Rattle.brl_table.specs.declared.liblouis.OpcodeOrigin.{OpcodeOrigin}
use Rattle.brl_table.specs.declared.liblouis.OpcodeOrigin.TheVariants.{Profile, Liblouis, Unknown}

-- ---- How many lines there are of each opcode

-- an opcode, and a number of lines
pub record CountView : Type 0 where
  pub opcode : List ℕ
  pub lines : ℕ

-- an opcode, and how often it is among these
abbrev pub count_among : List (List ℕ) → List ℕ → CountView
count_among opcodes opcode = record { opcode = opcode; lines = count_by (bytes_eq opcode) opcodes }

-- each of the opcodes once, and how often it is among them
abbrev pub tally : List (List ℕ) → List CountView
tally opcodes = map (count_among opcodes) (dedup bytes_eq opcodes)

-- the order of counts: those of more lines first, and those of as many lines by their opcodes
abbrev pub count_cmp : CountView → CountView → Ordering
count_cmp = then_cmp (flip_args (on (λ count. count.lines) nat_cmp)) (on (λ count. count.opcode) (slice_cmp nat_cmp))

-- the counts are those of these opcodes, in order
pub record AreCounts (opcodes : List (List ℕ)) (counts : List CountView) : Type 0 where
  pub all : IsPermutation (tally opcodes) counts
  pub ordered : IsSorted count_cmp counts

-- ---- The report

-- the line of a fault
abbrev pub fault_line : FaultyLineView → List ℕ
fault_line faulty = fault_text faulty.fault ++ codes "\n"

-- what the line of a count says of whose opcode it is
abbrev pub origin_note : OpcodeOrigin → List ℕ
origin_note Profile = []
origin_note Liblouis = codes " (not in the profile)"
origin_note Unknown = codes " (not in liblouis)"

-- the line of a count
abbrev pub count_line : CountView → List ℕ
count_line count = codes "opcode " ++ count.opcode ++ codes ": " ++ decimal count.lines ++ origin_note (origin_of count.opcode) ++ codes "\n"

-- how many of a number of lines are read, where this many are faulty
abbrev pub read_line : ℕ → ℕ → List ℕ
read_line faulty lines = decimal (lines - faulty) ++ codes " of " ++ decimal lines ++ codes " lines are read\n"

-- how many of the lines are of the file at a path
abbrev pub lines_in : List LineView → List ℕ → ℕ
lines_in lines path = count_by (λ line. bytes_eq path line.file) lines

-- how many of the faulty lines are of the file at a path
abbrev pub faulty_in : List FaultyLineView → List ℕ → ℕ
faulty_in found path = count_by (λ faulty. bytes_eq path faulty.fault.file) found

-- the line of the file at a path, where this many of its lines are faulty
abbrev pub read_in_file : List ℕ → ℕ → ℕ → List ℕ
read_in_file path faulty lines = codes "file " ++ path ++ codes ": " ++ read_line faulty lines

-- the line of a file that has faulty lines; empty for another
abbrev pub file_line : List FaultyLineView → List LineView → List ℕ → List ℕ
file_line found lines path =
    if nat_lt 0 (faulty_in found path) then read_in_file path (faulty_in found path) (lines_in lines path) else []

-- the opcodes of faulty lines
abbrev pub opcodes_of : List FaultyLineView → List (List ℕ)
opcodes_of found = map (λ faulty. faulty.opcode) found

-- the note that the second pass is not made yet, where a line has a fault by itself
abbrev pub pass_note : Bool → List ℕ
pass_note passes_first = if passes_first then [] else codes "undefined characters (B5 to B7) are looked for once no line has another fault\n"

-- the note that no line defines a character
abbrev pub characters_note : Bool → List ℕ
characters_note has_characters = if has_characters then [] else codes "no line defines a character\n"

-- the report of a survey of these lines, of files with these paths, which found this; one that is
-- brief has no faults
abbrev pub IsSurveyText : Bool → FindingsView → List LineView → List (List ℕ) → List ℕ → Type 0
IsSurveyText brief found lines paths text =
    (counts : List CountView) × AreCounts (opcodes_of found.faulty) counts
    × (text ≡ (if brief then [] else flat_map fault_line found.faulty) ++ flat_map count_line counts ++ flat_map (file_line found.faulty lines) paths
    ++ (pass_note found.passes_first ++ characters_note found.has_characters) ++ read_line (length found.faulty) (length lines))

-- the line of an include line that was skipped
abbrev pub skipped_line : LeftView → List ℕ
skipped_line left = codes "skipped: " ++ left.name ++ codes " at " ++ left.file ++ codes ":" ++ decimal left.line ++ codes "\n"

-- ---- The report of a cut

-- how many of the kept lines are rewritten, where lines may be
abbrev pub rewritten_note : Bool → ℕ → List ℕ
rewritten_note rewrite rewritten = if rewrite then codes ", " ++ decimal rewritten ++ codes " of them rewritten" else []

-- how many lines are kept, where this many are left out
abbrev pub kept_note : ℕ → ℕ → List ℕ
kept_note kept left_out = decimal kept ++ codes " of " ++ decimal (kept + left_out) ++ codes " lines are kept"

-- how many of these paths, of the files of lines, are this one
abbrev pub kept_in : List (List ℕ) → List ℕ → ℕ
kept_in files path = count_by (bytes_eq path) files

-- the line of a file that has lines which are left out; empty for another
abbrev pub cut_file_line : List FaultyLineView → List (List ℕ) → List ℕ → List ℕ
cut_file_line left_out files path =
    if nat_lt 0 (faulty_in left_out path) then read_in_file path (faulty_in left_out path) (kept_in files path + faulty_in left_out path) else []

-- the report of a cut that left these lines out, of files with these paths, and rewrote this many,
-- where lines might be rewritten; and of each line that is kept, the path of its file
abbrev pub IsCutText : Bool → ℕ → List FaultyLineView → List (List ℕ) → List (List ℕ) → List ℕ → Type 0
IsCutText rewrite rewritten left_out files paths text =
    (counts : List CountView) × AreCounts (opcodes_of left_out) counts
    × (text ≡ kept_note (length files) (length left_out) ++ rewritten_note rewrite rewritten ++ codes "\n" ++ flat_map count_line counts
    ++ flat_map (cut_file_line left_out files) paths)
