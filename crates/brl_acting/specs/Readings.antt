-- What the lines give that brl reads: rules, cells, small letters, and which opcodes there are.
use Rattle.std.specs.Prelude.{ℕ, ◌&&◌, ◌||◌, Bool, true, false, not, List, [], ◌∷◌, ◌++◌, codes, flat_map, if◌then◌else◌, map, nat_eq, Option, Some, None, Result, Ok, Err}
use Rattle.std.specs.List.{enumerate_from, find, list_all, list_any, position}
use Rattle.std.specs.Option.{option_map_or, unwrap_or}
use Rattle.brl_cells.specs.Dots.{reading}
use Rattle.brl_cells.specs.declared.fault.DotsFault.{DotsFault}
use Rattle.brl_table.specs.Items.{parts_of}
use Rattle.brl_acting.specs.Capitals.{Reach, bases_of, has_opcode, reach_by, reach_view}
use Rattle.brl_acting.specs.Classes.{Classes, Members, besides_of, classes_from, classes_of, classes_view, facts_by, members_in, noletsigns_of}
use Rattle.brl_acting.specs.Sets.{is_in, set_view}
use Rattle.brl_acting.specs.Words.{LineParts, chars_at, word_at}
use Rattle.brl_acting.specs.declared.facts.Facts.{Facts}
use Rattle.brl_acting.specs.declared.form.Form.{Form}
use Rattle.brl_acting.specs.declared.form.Form.TheVariants.{Defines, Uplow, Rule, Capitals, Digits, Letsign}
use Rattle.brl_acting.specs.declared.known.Known.{Known as KnownOfCode}
use Rattle.brl_acting.specs.declared.readings.Readings.{Readings as ReadingsOfCode}
use Rattle.brl_acting.specs.declared.rules.Rule.{Rule as RuleOfCode}

-- ---- Rules

-- a kept rule: its opcode, characters and dots, and the place of its line
pub record KeptRule : Type 0 where
  pub opcode : List ℕ
  pub chars : List ℕ
  pub dots : List ℕ
  pub place : ℕ

abbrev pub kept_rule : ℕ → LineParts → List ℕ → KeptRule
kept_rule place parts chars = record { opcode = word_at parts.words 0; chars = chars; dots = word_at parts.words 2; place = place }

abbrev pub is_rule : Option Form → Bool
is_rule (Some Rule) = true
is_rule other = false

-- a line is a kept rule that is used
abbrev pub gives_rule : LineParts → Bool
gives_rule parts = parts.kept && not parts.nofor && is_rule parts.form

abbrev pub rule_if : ℕ → LineParts → Option (List ℕ) → List KeptRule
rule_if place parts None = []
rule_if place parts (Some chars) = kept_rule place parts chars ∷ []

abbrev pub rule_at : ℕ × LineParts → List KeptRule
rule_at at = if gives_rule at.1 then rule_if at.0 at.1 (chars_at at.1.words 1) else []

abbrev pub rules_of : List LineParts → List KeptRule
rules_of lines = flat_map rule_at (enumerate_from 0 lines)

abbrev pub rule_view : RuleOfCode → KeptRule
rule_view rule = record { opcode = rule.opcode.now; chars = rule.chars.items; dots = rule.dots.now; place = rule.place }

-- ---- Cells

-- the cells that a word spells, with a comma between those of two characters, and twice without
-- one; none for `=`
abbrev pub cells_if : Result (List ℕ) DotsFault → List ℕ
cells_if (Ok cells) = cells
cells_if (Err fault) = []

abbrev pub cells_in : List ℕ → List ℕ
cells_in word = cells_if (reading 16 (parts_of word).0) ++ cells_if (reading 16 (parts_of word).1)

-- the word for the cells of a line of this form, if texts over the alphabet get them: that after
-- the characters, or after the opcode of an indicator
abbrev pub place_if : Bool → ℕ → Option ℕ
place_if gives place = if gives then Some place else None

abbrev pub dots_place : (ℕ → Bool) → Facts → List ℕ → Option Form → Option ℕ
dots_place near facts chars (Some Defines) = place_if (list_any near chars) 2
dots_place near facts chars (Some Uplow) = place_if (list_any near chars) 2
dots_place near facts chars (Some Rule) = place_if (list_all near chars) 2
dots_place near facts chars (Some Capitals) = place_if facts.has_capital 1
dots_place near facts chars (Some Digits) = place_if facts.has_digit 1
dots_place near facts chars (Some Letsign) = place_if facts.has_letter 1
dots_place near facts chars other = None

abbrev pub cells_at : LineParts → Option ℕ → List ℕ
cells_at parts None = []
cells_at parts (Some place) = cells_in (word_at parts.words place)

-- the cells of the indicators that a kept contraction has before those of its characters, by each
-- line that gives them some
abbrev pub sign_cells_in : LineParts → List ℕ
sign_cells_in parts = if has_opcode (codes "nocontractsign") parts || has_opcode (codes "letsign") parts then cells_in (word_at parts.words 1) else []

abbrev pub sign_cells : List LineParts → List ℕ
sign_cells lines = flat_map sign_cells_in lines

abbrev pub signs_if_near : (ℕ → Bool) → List ℕ → List ℕ → List ℕ
signs_if_near near signs chars = if list_all near chars then signs else []

-- the cells that a line with these characters gives texts over the alphabet; of a contraction those
-- before its characters' own
abbrev pub given_cells : (ℕ → Bool) → Facts → List ℕ → LineParts → List ℕ → List ℕ
given_cells near facts signs parts chars =
    if has_opcode (codes "contraction") parts then signs_if_near near signs chars
    else cells_at parts (dots_place near facts chars parts.form)

-- the cells that a kept line gives texts over the alphabet
abbrev pub cells_of : (ℕ → Bool) → Facts → List ℕ → LineParts → List ℕ
cells_of near facts signs parts =
    if parts.kept && not parts.nofor then given_cells near facts signs parts (unwrap_or (chars_at parts.words 1) []) else []

-- ---- All that is known

-- the small letter of a capital, by the first line that gives one; another character itself
abbrev pub small_by : List (ℕ × ℕ) → ℕ → ℕ
small_by bases c = option_map_or (λ pair. pair.1) (find (λ pair. nat_eq pair.0 c) bases) c

-- a kept line has this opcode
abbrev pub keeps : List ℕ → List LineParts → Bool
keeps word lines = list_any (λ parts. parts.kept && has_opcode word parts) lines

-- the other two indicators of capitals are kept
abbrev pub keeps_runs : List LineParts → Bool
keeps_runs lines = keeps (codes "endcapsword") lines && (keeps (codes "capsletter") lines || keeps (codes "capsign") lines)

-- a line with `letsign` that the cut keeps, so that it has made a file of it
abbrev pub is_kept_letsign : LineParts → Bool
is_kept_letsign parts = parts.kept && has_opcode (codes "letsign") parts

-- the place of the first such line
abbrev pub letsign_of : List LineParts → Option ℕ
letsign_of lines = position is_kept_letsign lines

pub record Readings : Type 0 where
  pub small : ℕ → ℕ
  pub cells : ℕ → Bool
  pub rules : List KeptRule
  pub has_numsign : Bool
  pub keeps_word : Bool
  pub keeps_runs : Bool
  pub letsign : Option ℕ

abbrev pub readings_by : List LineParts → List (ℕ × ℕ) → (ℕ → Bool) → Facts → Readings
readings_by lines bases near facts = record {
  small = small_by bases;
  cells = is_in (flat_map (cells_of near facts (sign_cells lines)) lines);
  rules = rules_of lines;
  has_numsign = list_any (has_opcode (codes "numsign")) lines;
  keeps_word = keeps (codes "begcapsword") lines;
  keeps_runs = keeps_runs lines;
  letsign = letsign_of lines;
}

abbrev pub readings_view : ReadingsOfCode → Readings
readings_view readings = record {
  small = small_by readings.bases.items;
  cells = set_view readings.cells;
  rules = map rule_view readings.rules.items;
  has_numsign = readings.has_numsign;
  keeps_word = readings.keeps_word;
  keeps_runs = readings.keeps_runs;
  letsign = readings.letsign;
}

-- all that is known of lines and an alphabet
pub record Known : Type 0 where
  pub reach : Reach
  pub classes : Classes
  pub facts : Facts
  pub read : Readings

-- of lines and these characters, by the classes, the capitals and the letters without `letsign`
-- that the lines give, and by facts
abbrev pub known_from : List LineParts → List (List ℕ × ℕ) → List (ℕ × ℕ) → Members → (ℕ → Bool) → Facts → List ℕ → Known
known_from lines pairs bases all noletsigns facts chars =
    let reach = reach_by bases chars in
    record { reach = reach; classes = classes_from all noletsigns pairs reach.stood; facts = facts; read = readings_by lines bases reach.near facts }

-- of lines and these characters
abbrev pub known_by : List LineParts → List ℕ → Known
known_by lines chars =
    let pairs = classes_of lines in
    let bases = bases_of lines in
    let all = members_in pairs in
    let noletsigns = is_in (noletsigns_of lines) in
    known_from lines pairs bases all noletsigns (facts_by all bases noletsigns (besides_of lines) chars) chars

-- of lines and an alphabet, to which the blank belongs
abbrev pub known_of : List LineParts → List ℕ → Known
known_of lines alphabet = known_by lines (32 ∷ alphabet)

abbrev pub known_view : KnownOfCode → Known
known_view known = record { reach = reach_view known.reach; classes = classes_view known.classes; facts = known.facts; read = readings_view known.read }
