-- The classes of characters. The manual has them in section "Character-Definition Opcodes".
use Rattle.std.specs.Prelude.{ℕ, ◌&&◌, ◌||◌, Bool, not, List, [], ◌∷◌, ◌++◌, codes, filter, flat_map, if◌then◌else◌, map}
use Rattle.std.specs.List.{list_any}
use Rattle.std.specs.Option.{unwrap_or}
use Rattle.std.specs.Str.{bytes_eq}
use Rattle.brl_acting.specs.Capitals.{has_opcode, bases_in, seconds}
use Rattle.brl_acting.specs.Forms.{defines, is_definition}
use Rattle.brl_acting.specs.Sets.{is_in, is_one_of, names_view, set_view}
use Rattle.brl_acting.specs.Words.{LineParts, chars_at, word_at}
use Rattle.brl_acting.specs.declared.classes.Classes.{Classes as ClassesOfCode}
use Rattle.brl_acting.specs.declared.classes.MemberSets.{MemberSets}
use Rattle.brl_acting.specs.declared.facts.Facts.{Facts}

-- A character of a class belongs to others by it: capitals and small letters are letters. The empty
-- name is that of all classes of one's own together.
abbrev pub classes_with : List ℕ → ℕ → List (List ℕ × ℕ)
classes_with name c =
    if is_one_of (codes "uppercase" ∷ codes "lowercase" ∷ []) name then (name, c) ∷ (codes "letter", c) ∷ []
    else if is_definition name then (name, c) ∷ []
    else (name, c) ∷ ([], c) ∷ []

-- the class that a line names, and its characters
abbrev pub classes_named : List ℕ → List ℕ → List (List ℕ × ℕ)
classes_named name chars = flat_map (classes_with name) chars

-- the opcodes whose lines name a class, and then its characters
abbrev pub names_class : List ℕ → Bool
names_class word = is_one_of (codes "attribute" ∷ codes "class" ∷ codes "base" ∷ codes "swapcc" ∷ codes "swapcd" ∷ []) word

-- a capital and its small letter
abbrev pub classes_of_pair : ℕ × ℕ → List (List ℕ × ℕ)
classes_of_pair pair = classes_with (codes "uppercase") pair.0 ++ classes_with (codes "lowercase") pair.1

abbrev pub classes_of_pairs : List (ℕ × ℕ) → List (List ℕ × ℕ)
classes_of_pairs pairs = flat_map classes_of_pair pairs

-- The classes that a line gives characters. Where those after a name can't be known, the class has
-- the blank, which is in each alphabet.
abbrev pub classes_in : LineParts → List (List ℕ × ℕ)
classes_in parts =
    if defines parts.form then classes_named (word_at parts.words 0) (unwrap_or (chars_at parts.words 1) [])
    else if names_class (word_at parts.words 0) then classes_named (word_at parts.words 1) (unwrap_or (chars_at parts.words 2) (32 ∷ []))
    else classes_of_pairs (bases_in parts)

abbrev pub classes_of : List LineParts → List (List ℕ × ℕ)
classes_of lines = flat_map classes_in lines

-- the characters of a class
abbrev pub members : List ℕ → List (List ℕ × ℕ) → List ℕ
members name pairs = map (λ pair. pair.1) (filter (λ pair. bytes_eq pair.0 name) pairs)

-- a name is one of those of pairs
abbrev pub is_name_of : List (List ℕ × ℕ) → List ℕ → Bool
is_name_of pairs name = list_any (λ pair. bytes_eq name pair.0) pairs

-- The letters before which `letsign` doesn't stand, by a line: those that `noletsign` lists, and a
-- letter that is a word.
abbrev pub only : List ℕ → List ℕ
only (c ∷ []) = c ∷ []
only others = []

abbrev pub noletsigns_in : LineParts → List ℕ
noletsigns_in parts =
    if has_opcode (codes "noletsign") parts then unwrap_or (chars_at parts.words 1) []
    else if is_one_of (codes "word" ∷ codes "largesign" ∷ []) (word_at parts.words 0) && not parts.nofor then only (unwrap_or (chars_at parts.words 1) [])
    else []

abbrev pub noletsigns_of : List LineParts → List ℕ
noletsigns_of lines = flat_map noletsigns_in lines

-- the characters beside which it doesn't stand, by a line
abbrev pub besides_in : LineParts → List ℕ
besides_in parts = if is_one_of (codes "noletsignbefore" ∷ codes "noletsignafter" ∷ []) (word_at parts.words 0) then unwrap_or (chars_at parts.words 1) [] else []

abbrev pub besides_of : List LineParts → List ℕ
besides_of lines = flat_map besides_in lines

-- ---- What is known of classes and an alphabet

-- the names of classes, those that have a member for which characters of the alphabet stand, and
-- some members
pub record Classes : Type 0 where
  pub names : List ℕ → Bool
  pub met : List ℕ → Bool
  pub capitals : ℕ → Bool
  pub plain_digits : ℕ → Bool
  pub literary_digits : ℕ → Bool
  pub letters : ℕ → Bool
  pub noletsigns : ℕ → Bool

-- the pairs whose character is stood for
abbrev pub met_by : (ℕ → Bool) → List (List ℕ × ℕ) → List (List ℕ × ℕ)
met_by stood pairs = filter (λ pair. stood pair.1) pairs

-- The members of some classes.
pub record Members : Type 0 where
  pub capitals : ℕ → Bool
  pub plain_digits : ℕ → Bool
  pub literary_digits : ℕ → Bool
  pub letters : ℕ → Bool
  pub spaces : ℕ → Bool
  pub marks : ℕ → Bool

abbrev pub members_in : List (List ℕ × ℕ) → Members
members_in pairs = record {
  capitals = is_in (members (codes "uppercase") pairs);
  plain_digits = is_in (members (codes "digit") pairs);
  literary_digits = is_in (members (codes "litdigit") pairs);
  letters = is_in (members (codes "letter") pairs);
  spaces = is_in (members (codes "space") pairs);
  marks = is_in (members (codes "punctuation") pairs);
}

abbrev pub members_view : MemberSets → Members
members_view all = record {
  capitals = set_view all.capitals;
  plain_digits = set_view all.plain_digits;
  literary_digits = set_view all.literary_digits;
  letters = set_view all.letters;
  spaces = set_view all.spaces;
  marks = set_view all.marks;
}

abbrev pub classes_from : Members → (ℕ → Bool) → List (List ℕ × ℕ) → (ℕ → Bool) → Classes
classes_from all noletsigns pairs stood = record {
  names = is_name_of pairs;
  met = is_name_of (met_by stood pairs);
  capitals = all.capitals;
  plain_digits = all.plain_digits;
  literary_digits = all.literary_digits;
  letters = all.letters;
  noletsigns = noletsigns;
}

abbrev pub classes_view : ClassesOfCode → Classes
classes_view classes = record {
  names = names_view classes.names;
  met = names_view classes.met;
  capitals = set_view classes.capitals;
  plain_digits = set_view classes.plain_digits;
  literary_digits = set_view classes.literary_digits;
  letters = set_view classes.letters;
  noletsigns = set_view classes.noletsigns;
}

-- the alphabet has a character that is neither a letter nor a space
abbrev pub has_mark : Members → List ℕ → Bool
has_mark all chars = list_any (λ c. not (all.letters c || all.spaces c)) chars

-- a letter before which a sign may stand
abbrev pub has_letter : Members → (ℕ → Bool) → List ℕ → Bool
has_letter all noletsigns chars = list_any (λ c. all.letters c && not (noletsigns c)) chars

-- a space or a punctuation mark
abbrev pub is_apart : Members → ℕ → Bool
is_apart all c = all.spaces c || all.marks c

-- A character beside which, or before which, a rewritten `letsign` isn't exact: a capital; one that
-- `noletsignbefore` or `noletsignafter` lists; a letter that is a space or a punctuation mark too;
-- and one that is none of the three, as a digit or a sign.
abbrev pub is_odd : Members → (ℕ → Bool) → ℕ → Bool
is_odd all besides c = all.capitals c || besides c || (if all.letters c then is_apart all c else not (is_apart all c))

-- the alphabet has one
abbrev pub has_odd : Members → (ℕ → Bool) → List ℕ → Bool
has_odd all besides chars = list_any (is_odd all besides) chars

-- a letter that is no capital and has none
abbrev pub is_caseless : Members → (ℕ → Bool) → ℕ → Bool
is_caseless all small c = all.letters c && not (all.capitals c || small c)

abbrev pub has_caseless : Members → List (ℕ × ℕ) → List ℕ → Bool
has_caseless all bases chars = list_any (is_caseless all (is_in (seconds bases all.capitals))) chars

abbrev pub facts_by : Members → List (ℕ × ℕ) → (ℕ → Bool) → List ℕ → List ℕ → Facts
facts_by all bases noletsigns besides chars = record {
  has_capital = list_any all.capitals chars;
  has_digit = list_any all.plain_digits chars || list_any all.literary_digits chars;
  has_mark = has_mark all chars;
  has_letter = has_letter all noletsigns chars;
  has_odd = has_odd all (is_in besides) chars;
  has_caseless = has_caseless all bases chars;
}
