-- Capitals and their small letters, and which characters stand for which: capitals stand for their
-- small letters. The manual has `base` in section "Character-Definition Opcodes".
use Rattle.std.specs.Prelude.{ℕ, zero, suc, ◌||◌, Bool, List, [], ◌∷◌, ◌++◌, codes, filter, flat_map, if◌then◌else◌, length, map, Option, Some, None}
use Rattle.std.specs.Option.{option_and_then, option_map}
use Rattle.std.specs.Str.{bytes_eq}
use Rattle.brl_acting.specs.Sets.{is_in, set_view}
use Rattle.brl_acting.specs.Words.{LineParts, chars_at, word_at}
use Rattle.brl_acting.specs.declared.reach.Reach.{Reach as ReachOfCode}

-- a line has this opcode after its prefixes
abbrev pub has_opcode : List ℕ → LineParts → Bool
has_opcode word parts = bytes_eq (word_at parts.words 0) word

-- the characters of a pair, a capital and its small letter: those of an `uplow` line, or of the two
-- words of a `base` line
abbrev pub both : Option (List ℕ) → Option (List ℕ) → Option (List ℕ)
both one other = option_and_then (λ (first : List ℕ). option_map (λ (second : List ℕ). first ++ second) other) one

abbrev pub pair_chars : LineParts → Option (List ℕ)
pair_chars parts =
    if has_opcode (codes "uplow") parts then chars_at parts.words 1
    else if has_opcode (codes "base") parts then both (chars_at parts.words 2) (chars_at parts.words 3)
    else None

abbrev pub pair_of : Option (List ℕ) → List (ℕ × ℕ)
pair_of (Some (capital ∷ small ∷ [])) = (capital, small) ∷ []
pair_of other = []

-- the capitals with their small letters that a line gives, and that lines give
abbrev pub bases_in : LineParts → List (ℕ × ℕ)
bases_in parts = pair_of (pair_chars parts)

abbrev pub bases_of : List LineParts → List (ℕ × ℕ)
bases_of lines = flat_map bases_in lines

-- the second characters of pairs whose first one is in a set
abbrev pub seconds : List (ℕ × ℕ) → (ℕ → Bool) → List ℕ
seconds pairs set = map (λ pair. pair.1) (filter (λ pair. set pair.0) pairs)

-- what a set reaches by steps from first to second characters: by one, by the given number, and
-- by any number
abbrev pub grown : List (ℕ × ℕ) → (ℕ → Bool) → ℕ → Bool
grown pairs set = λ c. set c || is_in (seconds pairs set) c

abbrev pub reached_in : ℕ → List (ℕ × ℕ) → (ℕ → Bool) → ℕ → Bool
reached_in zero pairs set = set
reached_in (suc steps) pairs set = reached_in steps pairs (grown pairs set)

abbrev pub reached : List (ℕ × ℕ) → (ℕ → Bool) → ℕ → Bool
reached pairs set = reached_in (length pairs) pairs set

-- pairs the other way round
abbrev pub turned : List (ℕ × ℕ) → List (ℕ × ℕ)
turned pairs = map (λ pair. (pair.1, pair.0)) pairs

-- what characters stand for beside themselves: capitals for their small letters, and for what
-- these stand for
abbrev pub over_by : List (ℕ × ℕ) → List ℕ → ℕ → Bool
over_by bases chars = reached bases (is_in (seconds bases (is_in chars)))

-- what characters stand for: themselves, too
abbrev pub stood_by : List (ℕ × ℕ) → List ℕ → ℕ → Bool
stood_by bases chars = λ c. over_by bases chars c || is_in chars c

-- the characters that stand for one of these
abbrev pub near_by : List (ℕ × ℕ) → List ℕ → ℕ → Bool
near_by bases chars = reached (turned bases) (stood_by bases chars)

-- the characters of an alphabet, what they stand for, and what is near them
pub record Reach : Type 0 where
  pub alphabet : ℕ → Bool
  pub over : ℕ → Bool
  pub stood : ℕ → Bool
  pub near : ℕ → Bool

abbrev pub reach_by : List (ℕ × ℕ) → List ℕ → Reach
reach_by bases chars = record { alphabet = is_in chars; over = over_by bases chars; stood = stood_by bases chars; near = near_by bases chars }

abbrev pub reach_view : ReachOfCode → Reach
reach_view reach = record { alphabet = set_view reach.alphabet; over = set_view reach.over; stood = set_view reach.stood; near = set_view reach.near }
