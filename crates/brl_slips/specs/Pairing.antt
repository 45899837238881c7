-- Internal. What the search for twins keeps.
use Rattle.std.specs.Prelude.{ℕ, ◌≡◌, ◌≢◌, ◌<◌, ◌+◌, ◌++◌, ◌∷◌, ◌⊎◌, ◌&&◌, All, Bool, false, if◌then◌else◌, List, [], length, nat_eq, nat_lt, not, MatchOption, Option, Some}
use Rattle.std.specs.Cmp.Lexicographic.{pointwise}
use Rattle.std.specs.Global.{Vec}
use Rattle.std.specs.List.{AllPairs, Contains, list_any}
use Rattle.std.specs.Option.{option_map_or, unwrap_or}
use Rattle.indexmap.specs.IndexMap.{IndexMap, get_by}
use Rattle.brl_slips.specs.Slips.{piece_of}
use Rattle.brl_slips.specs.Twins.{IsCandidate, IsOfFamily, IsOneDifference, IsTwins, letters}
use Rattle.brl_slips.specs.declared.lexicon.Lexicon.{Lexicon}
use Rattle.brl_slips.specs.declared.lexicon.Piece.{Piece}
use Rattle.brl_slips.specs.declared.twins.Family.{Family}
use Rattle.brl_slips.specs.declared.twins.Twins.{Twins}

-- these are all that have a property, each once
pub record AreAll {X : Type 0} (Has : X → Type 0) (xs : List X) : Type 0 where
  pub each : All Has xs
  pub once : AllPairs (λ x y. x ≢ y) xs
  pub whole : (x : X) → Has x → Contains xs x

-- a given number of things have it, and no more
abbrev pub AreAsMany : {X : Type 0} → (X → Type 0) → ℕ → Type 0
AreAsMany {X} Has n = (xs : List X) × AreAll Has xs × (length xs ≡ n)

-- ---- Families

-- two families are the same
abbrev pub is_family : Family → Family → Bool
is_family one other = pointwise nat_eq one.cells other.cells && nat_eq one.characters other.characters

-- the rules that a family has; none where it has none
abbrev pub members_of : {S : Type 0} → IndexMap Family (Vec ℕ) S → Family → List ℕ
members_of families family = option_map_or (λ found. found.items) (get_by (is_family family) families) []

-- a rule has these characters
abbrev pub has_chars : Lexicon → List ℕ → ℕ → Bool
has_chars lexicon chars entry = option_map_or (λ (piece : Piece). pointwise nat_eq piece.chars chars) (piece_of lexicon entry) false

-- a family of these rules takes one more, with these characters
abbrev pub is_wanted : Lexicon → List ℕ → List ℕ → Bool
is_wanted lexicon members chars = nat_lt (length members) 4 && not (list_any (has_chars lexicon chars) members)

-- a family has a rule more, and each other what it had
abbrev pub IsAdded : {S : Type 0} → IndexMap Family (Vec ℕ) S → IndexMap Family (Vec ℕ) S → Family → ℕ → Type 0
IsAdded old new family entry = (other : Family) → members_of new other ≡ members_of old other ++ (if is_family family other then entry ∷ [] else [])

-- of the first rules, those of a family: all of them, or four or more
pub record AreMembers (lexicon : Lexicon) (end : ℕ) (family : Family) (members : List ℕ) : Type 0 where
  pub each : All (IsOfFamily lexicon family.cells family.characters) members
  pub below : All (λ member. member < end) members
  pub once : AllPairs (λ x y. x ≢ y) members
  pub whole : length members < 4 → (entry : ℕ) (piece : Piece) → entry < end → piece_of lexicon entry ≡ Some piece → piece.cells ≡ family.cells → length piece.chars ≡ family.characters
      → (member : ℕ) × Contains members member × (piece_of lexicon member ≡ piece_of lexicon entry)

abbrev pub AreFamilies : {S : Type 0} → Lexicon → ℕ → IndexMap Family (Vec ℕ) S → Type 0
AreFamilies lexicon end families = (family : Family) → AreMembers lexicon end family (members_of families family)

-- these are the rules of a family of fewer than four, and this is one of them
pub record IsSmallFamily (lexicon : Lexicon) (other : ℕ) (members : List ℕ) : Type 0 where
  pub piece : Piece
  pub rule : piece_of lexicon other ≡ Some piece
  pub all : AreAll (IsOfFamily lexicon piece.cells (length piece.chars)) members
  pub few : length members < 4
  pub there : Contains members other

-- ---- Pairs

-- the one difference of two texts was found, or there is none
abbrev pub IsDifferenceFound : List ℕ → List ℕ → Option ℕ → Type 0
IsDifferenceFound left right found = MatchOption found ((place : ℕ) → IsOneDifference left right place → ⊥) (IsOneDifference left right)

-- two rules are twins, or they aren't
abbrev pub AreFound : Lexicon → ℕ → ℕ → Option Twins → Type 0
AreFound lexicon one other found = MatchOption found
    ((twins : Twins) → twins.one ≡ one → twins.other ≡ other → IsTwins lexicon twins → ⊥)
    (λ twins. (twins.one ≡ one) × (twins.other ≡ other) × IsTwins lexicon twins)

-- twins that may be shown, whose later rule has a number below an end
abbrev pub IsPairBelow : Lexicon → ℕ → Twins → Type 0
IsPairBelow lexicon end twins = IsCandidate lexicon twins × (twins.other < end)

-- twins that may be shown, whose later rule has a number below this one; and those of the next rule
-- whose earlier rule is one of these
abbrev pub IsPairWith : Lexicon → ℕ → List ℕ → Twins → Type 0
IsPairWith lexicon other ones twins = IsCandidate lexicon twins × ((twins.other < other) ⊎ ((twins.other ≡ other) × Contains ones twins.one))

-- ---- Letters

-- two pairs of letters are the same
abbrev pub are_letters : ℕ × ℕ → ℕ × ℕ → Bool
are_letters one other = nat_eq one.0 other.0 && nat_eq one.1 other.1

-- how often a map has two letters
abbrev pub count_of : {S : Type 0} → IndexMap (ℕ × ℕ) ℕ S → ℕ × ℕ → ℕ
count_of counts pair = unwrap_or (get_by (are_letters pair) counts) 0

-- two letters were counted once more, and others as often as before
abbrev pub IsOneMore : {S : Type 0} → IndexMap (ℕ × ℕ) ℕ S → IndexMap (ℕ × ℕ) ℕ S → ℕ × ℕ → Type 0
IsOneMore old new pair = (other : ℕ × ℕ) → count_of new other ≡ count_of old other + (if are_letters pair other then 1 else 0)

-- the map has how often two letters are those of twins with a property
abbrev pub AreCounted : {S : Type 0} → Lexicon → (Twins → Type 0) → IndexMap (ℕ × ℕ) ℕ S → Type 0
AreCounted lexicon Has counts = (pair : ℕ × ℕ) → AreAsMany (λ twins. Has twins × (letters lexicon twins ≡ Some pair)) (count_of counts pair)
