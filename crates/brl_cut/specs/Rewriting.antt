-- Lines that are rewritten, so that they are read. A line is rewritten by what is put before it: a
-- line that is read, and the mark of a comment. The project's own choice.
use Rattle.std.specs.Prelude.{ℕ, Bool, ◌&&◌, nat_eq, not, if◌then◌else◌, List, [], ◌∷◌, ◌++◌, codes, filter, flat_map, is_some, length, map, option_map, Option, Some, None, Result, Ok, Err}
use Rattle.std.specs.List.{list_any}
use Rattle.std.specs.Map.{lookup}
use Rattle.std.specs.Option.{option_and_then, option_map_or}
use Rattle.std.specs.Result.{is_ok}
use Rattle.std.specs.Str.{bytes_eq}
use Rattle.brl_cells.specs.Dots.{spelling}
use Rattle.brl_lines.specs.Escapes.{characters_of}
use Rattle.brl_lines.specs.Lines.{LocationView, Refusal, location_of}
use Rattle.brl_lines.specs.Tokens.{LineView, TokenView}
use Rattle.brl_lines.specs.declared.operand.CharsFault.{CharsFault}
use Rattle.brl_rules.specs.declared.rule.Info.{Info}
use Rattle.brl_table.specs.Survey.{good_characters}
use Rattle.brl_cut.specs.Contractions.{contraction_edits}
use Rattle.brl_cut.specs.Edits.{EditView, Texts, edited_files, is_of}
use Rattle.brl_cut.specs.Letsigns.{include_edit, is_taken, known_of, made_file, sign_edits}
use Rattle.brl_cut.specs.Putting.{edit_if_put, line_in_place, words_in_place}
use Rattle.brl_cut.specs.Settling.{lines_among}
use Rattle.brl_cut.specs.Signs.{SignView, letsign_of}

-- ---- Lines that begin with `noback`

-- the edit that puts these words before a line: an opcode and its first two operands
abbrev pub edit_to_words : LineView → List TokenView → List EditView
edit_to_words line (opcode ∷ first ∷ second ∷ others) = edit_if_put (line_in_place line opcode first second)
edit_to_words line others = []

-- the edit of a line that begins with `noback`, where what follows that is a definition
abbrev pub noback_edit : LineView → List EditView
noback_edit line = if bytes_eq line.opcode.text (codes "noback") then edit_to_words line line.operands else []

-- ---- Lines that begin with `base uppercase`

-- the character, if there is just one
abbrev pub the_only : Result (List ℕ) CharsFault → Option ℕ
the_only (Ok (c ∷ [])) = Some c
the_only other = None

-- the character that a word spells by itself
abbrev pub character_alone : List ℕ → Option ℕ
character_alone word = the_only (characters_of word)

-- the dots of the character that a word spells, where it is one of these
abbrev pub dots_among : List (ℕ × Info) → List ℕ → Option (List ℕ)
dots_among characters word = option_and_then (λ c. option_map (λ info. spelling info.cells) (lookup (nat_eq c) characters)) (character_alone word)

-- the `uplow` line of a pair of characters with the same dots, in the place of another line
abbrev pub uplow_in_place : LineView → List ℕ → List ℕ → LineView
uplow_in_place line pair dots = words_in_place line (codes "uplow") pair dots

-- the edit that puts the `uplow` line of two words before a line: each spells one character, and
-- the second one's dots are those that it has among these characters
abbrev pub edit_to_uplow : List (ℕ × Info) → LineView → List ℕ → List ℕ → List EditView
edit_to_uplow characters line upper lower =
    if is_some (character_alone upper)
    then option_map_or (λ dots. edit_if_put (uplow_in_place line (upper ++ lower) dots)) (dots_among characters lower) []
    else []

-- the edit of a line that begins with `base` and has these operands, where the first is `uppercase`
abbrev pub edit_to_pair : List (ℕ × Info) → LineView → List TokenView → List EditView
edit_to_pair characters line (attribute ∷ upper ∷ lower ∷ comment) = if bytes_eq attribute.text (codes "uppercase") then edit_to_uplow characters line upper.text lower.text else []
edit_to_pair characters line others = []

-- the edit of a line that begins with `base uppercase`
abbrev pub base_edit : List (ℕ × Info) → LineView → List EditView
base_edit characters line = if bytes_eq line.opcode.text (codes "base") then edit_to_pair characters line line.operands else []

-- ---- The lines of files

-- the edits of lines that begin with `noback`
abbrev pub noback_edits : List LineView → List EditView
noback_edits lines = flat_map noback_edit lines

-- the edits of lines that begin with `base uppercase`, with the dots that these lines give
abbrev pub base_edits : List LineView → List EditView
base_edits lines = flat_map (base_edit (good_characters lines)) lines

-- lines, or none where there is a refusal
abbrev pub lines_or_none : Result (List LineView) Refusal → List LineView
lines_or_none (Ok lines) = lines
lines_or_none (Err refused) = []

-- the lines of the table whose root has a path, of these files and no others, which are looked for
-- in these folders too; none where it can't be loaded
abbrev pub known_lines : List (List ℕ) → List ℕ → Texts → List LineView
known_lines folders root files = lines_or_none (lines_among folders files root)

-- ---- Lines that become definitions

-- where the files of a table are: the folders in which they are looked for, their names, the path
-- of the root, and that at which the root was found
pub record Around : Type 0 where
  pub folders : List (List ℕ)
  pub names : List (List ℕ)
  pub root : List ℕ
  pub home : List ℕ

-- the lines of these files; none where they can't be loaded
abbrev pub lines_in : Around → Texts → List LineView
lines_in around files = known_lines around.folders around.root files

-- first the lines that begin with `noback` are rewritten, and in the files after that those that
-- begin with `base uppercase`
abbrev pub after_noback : Around → Texts → Texts
after_noback around files = edited_files (noback_edits (lines_in around files)) files

abbrev pub after_base : Around → Texts → Texts
after_base around files = edited_files (base_edits (lines_in around files)) files

-- ---- Lines that begin with `contraction` or `letsign`

-- edits of files, and files that are made
pub record Change : Type 0 where
  pub edits : List EditView
  pub made : Texts

abbrev pub changed : Change → Texts → Texts
changed change files = edited_files change.edits (files ++ change.made)

-- of the `contraction` lines alone
abbrev pub contraction_change : List LineView → Change
contraction_change lines = record { edits = contraction_edits lines; made = [] }

-- and of the line that gives this sign
abbrev pub sign_change : List ℕ → List LineView → SignView → Change
sign_change root lines sign =
    let known = known_of lines sign in
    record { edits = contraction_edits lines ++ include_edit sign ∷ sign_edits known lines; made = made_file root known lines ∷ [] }

-- a change may be made that makes a file: none has its name or its path, and the table can be
-- loaded after it
abbrev pub may_change : Around → Texts → Change → Bool
may_change around files change = not (is_taken around.names around.home files) && is_ok (lines_among around.folders (changed change files) around.root)

abbrev pub change_to : Around → Texts → List LineView → SignView → Change
change_to around files lines sign = if may_change around files (sign_change around.home lines sign) then sign_change around.home lines sign else contraction_change lines

abbrev pub change_by : Around → Texts → List LineView → Option SignView → Change
change_by around files lines (Some sign) = change_to around files lines sign
change_by around files lines None = contraction_change lines

abbrev pub last_change : Around → Texts → List LineView → Change
last_change around files lines = change_by around files lines (letsign_of lines)

-- ---- All of them

-- files that are rewritten: all edits, the files that are made, and the files after that
pub record RewrittenView : Type 0 where
  pub edits : List EditView
  pub made : Texts
  pub files : Texts

abbrev pub with_definitions : Around → Texts → RewrittenView
with_definitions around files = record {
  edits = noback_edits (lines_in around files) ++ base_edits (lines_in around (after_noback around files));
  made = [];
  files = after_base around (after_noback around files);
}

-- files that were rewritten, after one change more
abbrev pub then_changed : RewrittenView → Change → RewrittenView
then_changed before change = record { edits = before.edits ++ change.edits; made = change.made; files = changed change before.files }

abbrev pub with_last_change : Around → RewrittenView → RewrittenView
with_last_change around before = then_changed before (last_change around before.files (lines_in around before.files))

-- these files rewritten, where this is asked for
abbrev pub rewritten : Bool → Around → Texts → RewrittenView
rewritten rewrite around files =
    if rewrite then with_last_change around (with_definitions around files) else record { edits = []; made = []; files = files }

-- ---- How many

-- whether the line at a place is rewritten
abbrev pub is_rewritten : List EditView → LocationView → Bool
is_rewritten edits place = list_any (is_of place.file place.line) edits

-- how many of these lines are rewritten
abbrev pub count_rewritten : List EditView → List LineView → ℕ
count_rewritten edits lines = length (filter (is_rewritten edits) (map location_of lines))
