-- Twins: two rules with the same cells whose characters differ in one letter. The project's own.
use Rattle.std.specs.Prelude.{ℕ, ◌≡◌, ◌≢◌, ◌≤◌, ◌<◌, true, All, List, [], if◌then◌else◌, length, nat_eq, nat_le, slice_get, slice_index, Option, Some}
use Rattle.std.specs.List.{AllPairs, Contains}
use Rattle.std.specs.Option.{option_and_then, option_map, option_map_or}
use Rattle.std.specs.Ordering.{flip_args, nat_cmp, on, then_cmp}
use Rattle.std.specs.declared.cmp.Ordering.{Ordering}
use Rattle.std.specs.declared.cmp.Ordering.TheVariants.{Less}
use Rattle.indexmap.specs.IndexMap.{get}
use Rattle.brl_rules.specs.declared.rule.Info.{Info}
use Rattle.brl_slips.specs.Letters.{is_letter}
use Rattle.brl_slips.specs.Slips.{piece_of}
use Rattle.brl_slips.specs.declared.alphabet.Characters.{Characters}
use Rattle.brl_slips.specs.declared.lexicon.Lexicon.{Lexicon}
use Rattle.brl_slips.specs.declared.lexicon.Piece.{Piece}
use Rattle.brl_slips.specs.declared.twins.Twins.{Twins}

-- the cells of a character's own definition; none where it has none
abbrev pub own_cells : Characters → ℕ → List ℕ
own_cells alphabet c = option_map_or (λ (info : Info). info.cells) (get nat_eq alphabet.infos c) []

-- ---- Two rules

-- two characters are letters with different cells of their own
pub record AreApart (alphabet : Characters) (one other : ℕ) : Type 0 where
  pub one_is : is_letter alphabet one ≡ true
  pub other_is : is_letter alphabet other ≡ true
  pub cells : own_cells alphabet one ≢ own_cells alphabet other

-- texts are as long as one another, and differ at a place and at no other
pub record IsOneDifference (left right : List ℕ) (place : ℕ) : Type 0 where
  pub as_long : length left ≡ length right
  pub within : place < length left
  pub differ : slice_index left place ≢ slice_index right place
  pub same : (k : ℕ) → k ≢ place → slice_index left k ≡ slice_index right k

-- two rules are twins, the earlier first: they have the same cells, two or more, and as many
-- characters, two or more, which differ in one letter; the two letters have different own cells
pub record IsTwins (lexicon : Lexicon) (twins : Twins) : Type 0 where
  pub left : Piece
  pub right : Piece
  pub one : piece_of lexicon twins.one ≡ Some left
  pub other : piece_of lexicon twins.other ≡ Some right
  pub order : twins.one < twins.other
  pub cells : left.cells ≡ right.cells
  pub characters : IsOneDifference left.chars right.chars twins.place
  pub apart : AreApart lexicon.alphabet (slice_index left.chars twins.place) (slice_index right.chars twins.place)
  pub some_cells : 2 ≤ length left.cells
  pub some_characters : 2 ≤ length left.chars
  pub length : twins.length ≡ length left.cells

-- ---- What counts, and what is too many

-- of rules with the same cells and the same characters the first counts alone
abbrev pub IsFirst : Lexicon → ℕ → Type 0
IsFirst lexicon entry = (earlier : ℕ) → earlier < entry → piece_of lexicon earlier ≢ piece_of lexicon entry

-- a rule is one of a family: it counts, and has these cells and a given number of characters
pub record IsOfFamily (lexicon : Lexicon) (cells : List ℕ) (characters entry : ℕ) : Type 0 where
  pub piece : Piece
  pub rule : piece_of lexicon entry ≡ Some piece
  pub same_cells : piece.cells ≡ cells
  pub as_many : length piece.chars ≡ characters
  pub first : IsFirst lexicon entry

-- fewer than four things have a property: different ones that have it are never four or more
abbrev pub AreFew : {X : Type 0} → (X → Type 0) → Type 0
AreFew {X} Has = (some : List X) → AllPairs (λ x y. x ≢ y) some → All Has some → length some < 4

-- twins may be shown: both rules count, and their family has fewer than four
pub record IsCandidate (lexicon : Lexicon) (twins : Twins) : Type 0 where
  pub are : IsTwins lexicon twins
  pub one : IsFirst lexicon twins.one
  pub other : IsFirst lexicon twins.other
  pub family : AreFew (IsOfFamily lexicon are.left.cells (length are.left.chars))

-- the character of a rule at a place
abbrev pub letter_at : Lexicon → ℕ → ℕ → Option ℕ
letter_at lexicon entry place = option_and_then (λ (piece : Piece). slice_get piece.chars place) (piece_of lexicon entry)

-- the two letters that differ, the lesser first
abbrev pub letters : Lexicon → Twins → Option (ℕ × ℕ)
letters lexicon twins = option_and_then
    (λ (one : ℕ). option_map (λ (other : ℕ). if nat_le one other then (one, other) else (other, one)) (letter_at lexicon twins.other twins.place))
    (letter_at lexicon twins.one twins.place)

-- two letters are those of fewer than four such twins: else they are a habit
abbrev pub AreRare : Lexicon → Option (ℕ × ℕ) → Type 0
AreRare lexicon pair = AreFew (λ twins. IsCandidate lexicon twins × (letters lexicon twins ≡ pair))

-- ---- What is shown

-- twins are to be shown: their letters are no habit
abbrev pub AreShown : Lexicon → Twins → Type 0
AreShown lexicon twins = IsCandidate lexicon twins × AreRare lexicon (letters lexicon twins)

-- twins with more cells first, then in the order of the table
abbrev pub twins_cmp : Twins → Twins → Ordering
twins_cmp = then_cmp (on (λ twins. twins.length) (flip_args nat_cmp)) (then_cmp (on (λ twins. twins.one) nat_cmp) (on (λ twins. twins.other) nat_cmp))

-- these are the twins that are to be shown, each once, in their order
pub record AreTwins (lexicon : Lexicon) (shown : List Twins) : Type 0 where
  pub order : AllPairs (λ one other. twins_cmp one other ≡ Less) shown
  pub each : All (AreShown lexicon) shown
  pub whole : (twins : Twins) → AreShown lexicon twins → Contains shown twins
