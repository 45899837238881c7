-- Trails that have the same parts, and pairs that are taken back.
use Rattle.std.proofs.Common.{◌≡◌, ℕ, zero, suc, ◌<◌, ◌≤◌, All, List, [], ◌∷◌, ◌++◌, ◌⊎◌, inl, inr, length, take, Some, slice_get, refl, sym, ◌∙◌, ap, subst, subst₂, arith}
use Rattle.std.proofs.lemmas.List.{take-append-le, take_all}
use Rattle.std.proofs.lemmas.Option.{get_or_from_slice_get, slice_get_within}
use Rattle.brl_pairs.specs.Body.{IsPairOf, NumberPair}
use Rattle.brl_pairs.specs.Runs.{Behaviour}
use Rattle.brl_pairs.proofs.Lists.{inside, same_place}
use Rattle.brl_closure.specs.Edges.{IsWalked}
use Rattle.brl_closure.specs.SearchView.{Stays}
use Rattle.brl_closure.specs.Trail.{AddsPairs, HasTwoEnds, HasTwoEndsAt, IsActive, IsFoundPair, IsFoundState, IsTraced}
use Rattle.brl_closure.specs.declared.search.finder.Finder.{Finder}
use Rattle.brl_closure.specs.declared.search.trail.PairOrigin.{PairOrigin}
use Rattle.brl_closure.specs.declared.search.trail.StateOrigin.{StateOrigin}
use Rattle.brl_closure.specs.declared.search.trail.Trail.{Trail}

-- ---- Lists

-- an element that holds for all, at its place
pub all_at : {X : Type 0} (P : X → Type 0) (xs : List X) (k : ℕ) (x : X) → All P xs → slice_get xs k ≡ Some x → P x
all_at P xs k x h at = subst P (get_or_from_slice_get xs k x x at) (h k x (slice_get_within xs k x at))

-- an element of the second list, after the first
pub behind : {X : Type 0} (P : X → Type 0) (xs ys : List X) (k : ℕ) (x : X) → All P ys → length xs ≤ k → slice_get (xs ++ ys) k ≡ Some x → P x
behind P [] ys k x h low at = all_at P ys k x h at
behind P (y ∷ xs) ys zero x h low at = absurd (omega arith)
behind P (y ∷ xs) ys (suc k) x h low at = behind P xs ys k x h (omega arith) at

-- the first of two lists that are joined
pub front : {X : Type 0} (xs ys : List X) (n : ℕ) → n ≡ length xs → take n (xs ++ ys) ≡ xs
front xs ys n is = take-append-le n xs ys (omega arith) ∙ take_all n xs (omega arith)

pub stays_joined : {X : Type 0} (xs ys : List X) → Stays xs (xs ++ ys)
stays_joined [] ys k x at = cc
stays_joined (y ∷ xs) ys zero x at = at
stays_joined (y ∷ xs) ys (suc k) x at = stays_joined xs ys k x at

-- ---- The same parts

module _ {S : Type 0} (t u : Trail S) (states : u.states ≡ t.states) (state_origins : u.state_origins.items ≡ t.state_origins.items) (pairs : u.pairs ≡ t.pairs) (origins : u.pair_origins.items ≡ t.pair_origins.items) where
  pub traced_same : (m : Behaviour S) → IsTraced m t → IsTraced m u
  traced_same m h = record {
    start = ap (λ (xs : List S). slice_get xs 0) states ∙ h.start;
    state_origins = ap length state_origins ∙ h.state_origins ∙ ap length (sym states);
    pair_origins = ap length origins ∙ h.pair_origins ∙ ap length (sym pairs);
    each_state = λ k s some at.
        subst₂ (λ (xs : List S) (os : List StateOrigin). IsFoundState m xs os k s) (sym states) (sym state_origins)
        (h.each_state k s some (ap (λ (xs : List S). slice_get xs k) (sym states) ∙ at));
    each_pair = λ n p at.
        subst (λ (xs : List S). IsFoundPair m xs u.pairs u.pair_origins.items n p) (sym states)
        (subst₂ (λ (ps : List NumberPair) (os : List PairOrigin). IsFoundPair m t.states ps os n p) (sym pairs) (sym origins)
        (h.each_pair n p (ap (λ (ps : List NumberPair). slice_get ps n) (sym pairs) ∙ at)));
    in_range = λ n p at.
        subst (λ (xs : List S). IsPairOf (length xs) p) (sym states) (h.in_range n p (ap (λ (ps : List NumberPair). slice_get ps n) (sym pairs) ∙ at));
    differ = λ i j p q lt at_i at_j.
        h.differ i j p q lt (ap (λ (ps : List NumberPair). slice_get ps i) (sym pairs) ∙ at_i) (ap (λ (ps : List NumberPair). slice_get ps j) (sym pairs) ∙ at_j);
  }

  pub active_same : {M : Type 0} (behaviour : M → Behaviour S) (f : Finder M S) → IsActive behaviour f t → IsActive behaviour f u
  active_same behaviour f h = record {
    laws = h.laws;
    traced = traced_same (behaviour f.machine.now) h.traced;
    few_states = let same : length u.states ≡ length t.states = ap length states in omega (arith, h.few_states, same);
    few_pairs = let same : length u.pairs ≡ length t.pairs = ap length pairs in omega (arith, h.few_pairs, same);
    small = h.small;
    no_two_ends = λ n p at two.
        h.no_two_ends n p (ap (λ (ps : List NumberPair). slice_get ps n) (sym pairs) ∙ at) (subst (λ (xs : List S). HasTwoEnds (behaviour f.machine.now) xs p) states two);
  }

  pub walked_same : (m : Behaviour S) (n : ℕ) → IsWalked m t.states t.pairs n → IsWalked m u.states u.pairs n
  walked_same m n h = subst₂ (λ (xs : List S) (ps : List NumberPair). IsWalked m xs ps n) (sym states) (sym pairs) h

-- ---- Pairs that were added

module _ {S : Type 0} (Kind : PairOrigin → Type 0) (t u : Trail S) (h : AddsPairs Kind t u) where
  pub added_stay : Stays t.pairs u.pairs
  added_stay = subst (Stays t.pairs) (sym h.pairs) (stays_joined t.pairs h.more)

  -- the origin of a pair that was added
  pub added_kind : length t.pair_origins.items ≡ length t.pairs → (n : ℕ) (o : PairOrigin) → length t.pairs ≤ n → slice_get u.pair_origins.items n ≡ Some o → Kind o
  added_kind many n o low at =
      behind Kind t.pair_origins.items h.origins n o h.kinds (omega (arith, many, low)) (ap (λ (os : List PairOrigin). slice_get os n) (sym h.pair_origins) ∙ at)

  -- where no pair had two ends before, one that has was added
  pub ends_added : (m : Behaviour S) → ((n : ℕ) (p : NumberPair) → slice_get t.pairs n ≡ Some p → HasTwoEnds m t.states p → ⊥) → (n : ℕ) → HasTwoEndsAt m u.states u.pairs n → length t.pairs ≤ n
  ends_added m none n two = elim (before_or_not n (length t.pairs)) [
    | inl less ↦ (
        let old = inside t.pairs n less in
        let same : old.0 ≡ two.pair = same_place u.pairs n old.0 two.pair (added_stay n old.0 old.1) two.at in
        absurd (none n old.0 old.1 (subst (HasTwoEnds m t.states) (sym same) (subst (λ (xs : List S). HasTwoEnds m xs two.pair) h.states two.ends))))
    | inr low ↦ low
  ]
    where
      before_or_not : (k l : ℕ) → (k < l) ⊎ (l ≤ k)
      before_or_not k l = grind arith

  -- a trail from which they are taken back has the parts that the old one has
  pub taken_pairs : (v : Trail S) → v.pairs ≡ take (length t.pairs) u.pairs → v.pairs ≡ t.pairs
  taken_pairs v is = is ∙ ap (take (length t.pairs)) h.pairs ∙ front t.pairs h.more (length t.pairs) refl

  pub taken_origins : (v : Trail S) → length t.pair_origins.items ≡ length t.pairs → v.pair_origins.items ≡ take (length t.pairs) u.pair_origins.items → v.pair_origins.items ≡ t.pair_origins.items
  taken_origins v many is = is ∙ ap (take (length t.pairs)) h.pair_origins ∙ front t.pair_origins.items h.origins (length t.pairs) (sym many)
