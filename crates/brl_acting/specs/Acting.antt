-- Which lines of a table can act on texts over an alphabet. A line has needs, which its opcode
-- gives, and it can act where each of them is met. That a line acts on no text over the alphabet
-- where one isn't met is the project's own claim of liblouis, which tests found.
use Rattle.std.specs.Prelude.{ℕ, ◌&&◌, ◌||◌, Bool, true, false, not, List, [], ◌∷◌, codes, flat_map, if◌then◌else◌, is_some, map, nat_lt, slice_get, Option, Some, None}
use Rattle.std.specs.List.{enumerate_from, list_all, list_any}
use Rattle.std.specs.Option.{option_map_or}
use Rattle.std.specs.Str.{bytes_eq}
use Rattle.brl_acting.specs.Capitals.{has_opcode, pair_chars}
use Rattle.brl_acting.specs.Forms.{is_definition, is_placed}
use Rattle.brl_acting.specs.Readings.{KeptRule, Known, known_of}
use Rattle.brl_acting.specs.Sets.{is_one_of}
use Rattle.brl_acting.specs.Tests.{is_class_met, is_pass_item_met, is_test_met, is_text_item_met}
use Rattle.brl_acting.specs.Words.{LineParts, TableLineView, all_chars_at, chars_at, parts_of, word_at}
use Rattle.brl_acting.specs.declared.form.Form.{Form}
use Rattle.brl_acting.specs.declared.form.Form.TheVariants.{Never, Defines, Base, Uplow, Grouping, Class, Rule, Block, Match, Text, Pass, Capitals, Digits, DigitList, Mode, Sequence, Letsign}

-- one of the characters that the word at a place spells is in a set; true where they can't be known
abbrev pub any_at : (ℕ → Bool) → Option (List ℕ) → Bool
any_at set chars = option_map_or (list_any set) chars true

-- each is
abbrev pub each_at : (ℕ → Bool) → List (List ℕ) → ℕ → Bool
each_at set words place = option_map_or (list_all set) (all_chars_at words place) true

-- ---- Lines that are left out

-- A definition: one of its characters is near the alphabet. Where one is a capital, the alphabet
-- has one, too.
abbrev pub is_definition_met : Known → List ℕ → Bool
is_definition_met known chars = list_any known.reach.near chars && (known.facts.has_capital || not (list_any known.classes.capitals chars))

abbrev pub defines_near : Known → List (List ℕ) → Bool
defines_near known words = option_map_or (is_definition_met known) (all_chars_at words 1) true

-- `attribute` and `class`: one of the characters is stood for. A class of one's own is used by
-- other lines alone.
abbrev pub gives_class : Known → List (List ℕ) → Bool
gives_class known words =
    if is_some (slice_get words 2) then is_definition (word_at words 1) && any_at known.reach.stood (chars_at words 2) else true

-- the test of a line, if it has one
abbrev pub text_acts : Known → List (List ℕ) → Bool
text_acts known words = option_map_or (is_test_met (is_text_item_met known)) (slice_get words 1) true

abbrev pub pass_acts : Known → List (List ℕ) → Bool
pass_acts known words = option_map_or (is_test_met (is_pass_item_met known)) (slice_get words 1) true

-- two characters: one of them is near; those of a capital need one in the alphabet
abbrev pub base_acts : Known → LineParts → Bool
base_acts known parts =
    any_at known.reach.near (pair_chars parts) && (known.facts.has_capital || not (bytes_eq (word_at parts.words 1) (codes "uppercase")))

-- a rule whose characters are all in a set, and each class that its prefixes name is met
abbrev pub rule_acts : Known → (ℕ → Bool) → LineParts → Bool
rule_acts known set parts = each_at set parts.words 1 && list_all (is_class_met known) parts.classes

-- a list of characters for numbers
abbrev pub list_acts : Known → List (List ℕ) → Bool
list_acts known words = known.facts.has_digit && any_at known.reach.alphabet (chars_at words 1)

-- a mode of one's own, for the characters of a class
abbrev pub mode_acts : Known → List (List ℕ) → Bool
mode_acts known words = option_map_or known.classes.met (slice_get words 1) true

-- whether a line that is left out can act, by the form of its needs
abbrev pub acts_by : Known → LineParts → Form → Bool
acts_by known parts Never = false
acts_by known parts Defines = defines_near known parts.words
acts_by known parts Base = base_acts known parts
acts_by known parts Uplow = any_at known.reach.near (pair_chars parts)
acts_by known parts Grouping = any_at known.reach.stood (chars_at parts.words 2)
acts_by known parts Class = gives_class known parts.words
acts_by known parts Rule = rule_acts known known.reach.stood parts
acts_by known parts Block = rule_acts known known.reach.near parts
acts_by known parts Match = each_at known.reach.stood parts.words 2
acts_by known parts Text = text_acts known parts.words
acts_by known parts Pass = pass_acts known parts.words
acts_by known parts Capitals = known.facts.has_capital
acts_by known parts Digits = known.facts.has_digit
acts_by known parts DigitList = list_acts known parts.words
acts_by known parts Mode = mode_acts known parts.words
acts_by known parts Sequence = known.facts.has_mark
acts_by known parts Letsign = known.facts.has_letter && not (is_some known.read.letsign)

-- after `nofor` only a definition acts
abbrev pub is_defining : Form → Bool
is_defining Defines = true
is_defining other = false

-- a line without a form, as of a word that is no opcode, always can
abbrev pub faulty_acts : Known → LineParts → Option Form → Bool
faulty_acts known parts None = true
faulty_acts known parts (Some form) = (is_defining form || not parts.nofor) && acts_by known parts form

-- ---- Kept lines that liblouis reads in another way

-- an `always` rule of this character alone is before a place
abbrev pub is_always_before : ℕ → ℕ → KeptRule → Bool
is_always_before place c rule = bytes_eq rule.opcode (codes "always") && bytes_eq rule.chars (c ∷ []) && nat_lt rule.place place

-- a rule does what brl makes of another one with capitals: it has the same opcode and the small
-- letters, and is earlier or has the same dots
abbrev pub is_same_small : ℕ → List (List ℕ) → List ℕ → KeptRule → Bool
is_same_small place words small rule =
    bytes_eq rule.opcode (word_at words 0) && bytes_eq rule.chars small && (nat_lt rule.place place || bytes_eq rule.dots (word_at words 2))

-- `letsign` may stand before a character, where it is rewritten
abbrev pub gets_sign : Known → ℕ → Bool
gets_sign known c = is_some known.read.letsign && known.classes.letters c && not (known.classes.noletsigns c)

-- a place is before that of the line with `letsign`
abbrev pub is_before_sign : Known → ℕ → Bool
is_before_sign known place = option_map_or (nat_lt place) known.read.letsign false

-- a rule of one character with `sufword` or `prfword` before that line: brl uses it for the letter
-- alone, and doesn't write the sign
abbrev pub loses_sign : Known → ℕ → List ℕ → ℕ → Bool
loses_sign known place word c = is_one_of (codes "sufword" ∷ codes "prfword" ∷ []) word && is_before_sign known place && gets_sign known c

-- a rule of one character that an `always` rule is before; a contraction is read as a rule for a
-- place
abbrev pub comes_late : Known → ℕ → List ℕ → ℕ → Bool
comes_late known place word c = (is_placed word || bytes_eq word (codes "contraction")) && list_any (is_always_before place c) known.read.rules

-- a rule of one character
abbrev pub one_acts : Known → ℕ → List ℕ → ℕ → Bool
one_acts known place word c = if comes_late known place word c || loses_sign known place word c then known.reach.alphabet c else known.reach.over c

-- a rule with capitals is one that no other rule does
abbrev pub is_capital_rule : Known → ℕ → LineParts → List ℕ → Bool
is_capital_rule known place parts chars = not (list_any (is_same_small place parts.words (map known.read.small chars)) known.read.rules)

-- the opcodes of rules at which a run of capitals can end or begin, and of those for numbers
abbrev pub is_run_rule : List ℕ → Bool
is_run_rule word = is_one_of (codes "prfword" ∷ codes "endword" ∷ codes "midword" ∷ codes "begmidword" ∷ codes "midendword" ∷ []) word

abbrev pub is_number_rule : List ℕ → Bool
is_number_rule word = is_one_of (codes "begnum" ∷ codes "midnum" ∷ codes "endnum" ∷ []) word

-- a rule at which a run of capitals ends or begins, where there are any
abbrev pub ends_run : Known → List ℕ → Bool
ends_run known word = is_run_rule word && known.read.keeps_word && known.facts.has_capital

-- characters begin with a letter before which the sign may stand, and one that is no letter
abbrev pub begins_alone : Known → List ℕ → Bool
begins_alone known (c ∷ d ∷ others) = gets_sign known c && not (known.classes.letters d)
begins_alone known others = false

-- A rule gets the sign in liblouis, and not in the cut. With `word`, `sufword` and `begword` the
-- cut rewrites it; with `endword`, `midword` and `midendword` a letter is before it, so there is no
-- sign.
abbrev pub lacks_sign : Known → List ℕ → List ℕ → Bool
lacks_sign known word chars = is_one_of (codes "always" ∷ codes "prfword" ∷ codes "begmidword" ∷ codes "partword" ∷ []) word && begins_alone known chars

-- a rule of more characters without a capital
abbrev pub small_act : Known → List ℕ → List ℕ → Bool
small_act known word chars = (ends_run known word || lacks_sign known word chars) && list_all known.reach.stood chars

-- a rule of more characters
abbrev pub more_act : Known → ℕ → LineParts → List ℕ → Bool
more_act known place parts chars =
    if list_any known.classes.capitals chars then list_all known.reach.near chars && is_capital_rule known place parts chars
    else small_act known (word_at parts.words 0) chars

-- a contraction of more characters: brl uses its `word` rule for capitals of its letters too
abbrev pub contraction_acts : Known → List ℕ → Bool
contraction_acts known chars = list_any known.reach.over chars && list_all known.reach.stood chars

abbrev pub some_act : Known → ℕ → LineParts → List ℕ → Bool
some_act known place parts chars = if has_opcode (codes "contraction") parts then contraction_acts known chars else more_act known place parts chars

-- a rule, by its characters
abbrev pub chars_act : Known → ℕ → LineParts → List ℕ → Bool
chars_act known place parts (c ∷ []) = one_acts known place (word_at parts.words 0) c
chars_act known place parts chars = some_act known place parts chars

-- a kept rule: for numbers digits are needed, and each character
abbrev pub kept_rule_acts : Known → ℕ → LineParts → Bool
kept_rule_acts known place parts =
    if is_number_rule (word_at parts.words 0) then known.facts.has_digit && each_at known.reach.stood parts.words 1
    else option_map_or (chars_act known place parts) (chars_at parts.words 1) true

-- a digit of the alphabet that isn't both a plain and a `litdigit` one
abbrev pub is_half_digit : Known → ℕ → Bool
is_half_digit known c =
    known.reach.alphabet c && (known.classes.plain_digits c || known.classes.literary_digits c) && not (known.classes.plain_digits c && known.classes.literary_digits c)

-- whether a kept line can act in another way, by the form of its needs
abbrev pub differs_by : Known → ℕ → LineParts → Form → Bool
differs_by known place parts Defines = known.read.has_numsign && option_map_or (list_any (is_half_digit known)) (chars_at parts.words 1) true
differs_by known place parts DigitList = list_acts known parts.words
differs_by known place parts Capitals =
    has_opcode (codes "begcapsword") parts && known.facts.has_capital && (known.facts.has_caseless || not known.read.keeps_runs)
differs_by known place parts Rule = kept_rule_acts known place parts
differs_by known place parts Letsign = known.facts.has_odd && (known.facts.has_letter || known.facts.has_capital)
differs_by known place parts other = false

abbrev pub kept_acts : Known → ℕ → LineParts → Option Form → Bool
kept_acts known place parts None = false
kept_acts known place parts (Some form) = not parts.nofor && differs_by known place parts form

-- ---- All lines

-- Whether the line at a place can act. One that goes on in the next line, or goes on from the one
-- before, always can: for liblouis the two are one.
abbrev pub can_act : Known → ℕ → LineParts → Bool
can_act known place parts =
    parts.continued || (if parts.kept then kept_acts known place parts parts.form else faulty_acts known parts parts.form)

-- the place of a line, if it can act
abbrev pub acting_at : Known → ℕ × LineParts → List ℕ
acting_at known at = if can_act known at.0 at.1 then at.0 ∷ [] else []

-- the places of the lines that can act, in order
abbrev pub acting_of : Known → List LineParts → List ℕ
acting_of known lines = flat_map (acting_at known) (enumerate_from 0 lines)

-- the places of the lines that can act on texts over an alphabet
abbrev pub acting_lines : List TableLineView → List ℕ → List ℕ
acting_lines lines alphabet = acting_of (known_of (map parts_of lines) alphabet) (map parts_of lines)
