-- Edges that a state shares with another one, and the splits that are left.
use Rattle.std.proofs.Common.{◌≡◌, ◌≢◌, ◌⊎◌, ℕ, ◌+◌, ◌<◌, ◌≤◌, Bool, true, false, cond, nat_eq, List, [], ◌∷◌, ◌++◌, get_or, inl, inr, length, Some, slice_get, sym, ◌∙◌, ap, subst, arith, true≢false, Contains, IsPermutation}
use Rattle.std.proofs.lemmas.Bool.{cases_eq, eq-eqb, ne_eqb}
use Rattle.std.proofs.lemmas.List.Sorted.{Contains-permutation, IsPermutation-sym}
use Rattle.std.proofs.lemmas.Option.{slice_get-get_or, slice_get_within}
use Rattle.brl_pairs.specs.Shared.{AreUnsharedSplits, IsLikeAt, IsTwoOf, IsUnsharedSplit}
use Rattle.brl_pairs.specs.Splits.{AreOthers, IsOther}
use Rattle.brl_pairs.specs.declared.shared.TwoPlaces.{TwoPlaces}
use Rattle.brl_pairs.specs.declared.sorted.SortedEdge.{SortedEdge}
use Rattle.brl_pairs.proofs.Lists.{inside, length_push, push_cases, same_place}
use Rattle.brl_pairs.proofs.Numbered.{contained}
use Rattle.brl_pairs.proofs.Unmatched.{match_back}

-- the first edges are shared or not, and their own ones are before this position
pub record AreSharedSoFar (sorted others : List SortedEdge) (shared : List Bool) (next : ℕ) : Type 0 where
  pub own : ℕ → ℕ
  pub within : next ≤ length others
  pub below : (k : ℕ) → slice_get shared k ≡ Some true → own k < next
  pub like : (k : ℕ) (x : SortedEdge) → slice_get shared k ≡ Some true → slice_get sorted k ≡ Some x → IsLikeAt others (own k) x
  pub apart : (k l : ℕ) → k < l → slice_get shared k ≡ Some true → slice_get shared l ≡ Some true → own k < own l
  pub all : sorted ≡ others → (next ≡ length shared) × ((k : ℕ) → k < length shared → slice_get shared k ≡ Some true)

-- before the first edge
pub none_shared : (sorted others : List SortedEdge) → AreSharedSoFar sorted others [] 0
none_shared sorted others = record {
  own = λ k. 0;
  within = omega arith;
  below = λ k at. cc;
  like = λ k x at. cc;
  apart = λ k l less at. cc;
  all = λ same. (omega arith, λ k less. absurd (omega (arith, less)));
}

-- the function that gives p at n, and elsewhere what the other one gives
abbrev with_own : (ℕ → ℕ) → ℕ → ℕ → ℕ → ℕ
with_own own n p k = cond (nat_eq k n) p (own k)

-- what it gives at n, and elsewhere
with_own-here : (own : ℕ → ℕ) (n p k : ℕ) → k ≡ n → with_own own n p k ≡ p
with_own-here own n p k here = ap (λ (b : Bool). cond b p (own k)) (eq-eqb k n here)

with_own-there : (own : ℕ → ℕ) (n p k : ℕ) → k ≢ n → with_own own n p k ≡ own k
with_own-there own n p k there = ap (λ (b : Bool). cond b p (own k)) (ne_eqb k n there)

-- the next edge's own one is looked for from one position on, up to another one
module _ (sorted others : List SortedEdge) (shared : List Bool) (x : SortedEdge) (from passed : ℕ) (x_at : slice_get sorted (length shared) ≡ Some x) (low : from ≤ passed) (high : passed ≤ length others)
    (stays : (other : SortedEdge) → slice_get others from ≡ Some other → other.cells ≡ x.cells → passed ≡ from) (h : AreSharedSoFar sorted others shared from) where
  -- an element of the longer list is one of the list, or the last
  cases : (b : Bool) (k : ℕ) → slice_get (shared ++ b ∷ []) k ≡ Some true → ((k < length shared) × (slice_get shared k ≡ Some true)) ⊎ ((k ≡ length shared) × (b ≡ true))
  cases b k at = elim (push_cases shared b k true at) [ inl before ↦ inl (slice_get_within shared k true before, before) | inr last ↦ inr last ]

  -- where the lists are the same, the edge is at the position that was come to
  itself : sorted ≡ others → (passed ≡ length shared) × (slice_get others passed ≡ Some x)
  itself same =
      let there : slice_get others from ≡ Some x = ap (λ (n : ℕ). slice_get others n) (h.all same).0 ∙ ap (λ (l : List SortedEdge). slice_get l (length shared)) (sym same) ∙ x_at in
      let here = stays x there cc in
      (here ∙ (h.all same).0, ap (slice_get others) here ∙ there)

  -- the edge isn't shared if it isn't the one come to
  pub one_alone : (slice_get others passed ≡ Some x → ⊥) → AreSharedSoFar sorted others (shared ++ false ∷ []) passed
  one_alone other = record {
    own = h.own;
    within = high;
    below = λ k at. (let less = h.below k (before k at) in omega (arith, less, low));
    like = λ k y at. h.like k y (before k at);
    apart = λ k l less k_at l_at. h.apart k l less (before k k_at) (before l l_at);
    all = λ same. absurd (other (itself same).1);
  }
    where
      before : (k : ℕ) → slice_get (shared ++ false ∷ []) k ≡ Some true → slice_get shared k ≡ Some true
      before k at = elim (cases false k at) [ inl was ↦ was.1 | inr last ↦ absurd (true≢false (sym last.1)) ]

  -- an edge like the one come to is shared, and that one is its own
  pub one_shared : IsLikeAt others passed x → AreSharedSoFar sorted others (shared ++ true ∷ []) (passed + 1)
  one_shared is = record {
    own = own;
    within = (let less = slice_get_within others passed is.other is.at in omega (arith, less));
    below = λ k at. elim (cases true k at) [
      | inl was ↦ (let less = h.below k was.1 in omega (arith, less, low, old k was.0))
      | inr last ↦ omega (arith, new k last.0)
    ];
    like = λ k y at y_at. elim (cases true k at) [
      | inl was ↦ subst (λ (n : ℕ). IsLikeAt others n y) (sym (old k was.0)) (h.like k y was.1 y_at)
      | inr last ↦ subst (λ (n : ℕ). IsLikeAt others n y) (sym (new k last.0)) (subst (IsLikeAt others passed) (same_place sorted k x y (ap (slice_get sorted) last.0 ∙ x_at) y_at) is)
    ];
    apart = λ k l less k_at l_at. elim (cases true k k_at) [
      | inl was ↦ elim (cases true l l_at) [
        | inl also ↦ (let before = h.apart k l less was.1 also.1 in omega (arith, before, old k was.0, old l also.0))
        | inr last ↦ (let before = h.below k was.1 in omega (arith, before, low, old k was.0, new l last.0))
      ]
      | inr last ↦ absurd (let within = slice_get_within (shared ++ true ∷ []) l true l_at in omega (arith, within, length_push shared true, less, last.0))
    ];
    all = λ same. (ap (λ (n : ℕ). n + 1) (itself same).0 ∙ sym (length_push shared true), every same);
  }
    where
      own : ℕ → ℕ
      own = with_own h.own (length shared) passed

      old : (k : ℕ) → k < length shared → own k ≡ h.own k
      old k less = with_own-there h.own (length shared) passed k (λ e. omega (arith, e, less))

      new : (k : ℕ) → k ≡ length shared → own k ≡ passed
      new k here = with_own-here h.own (length shared) passed k here

      every : sorted ≡ others → (k : ℕ) → k < length (shared ++ true ∷ []) → slice_get (shared ++ true ∷ []) k ≡ Some true
      every same k less = (let y = inside (shared ++ true ∷ []) k less in y.1 ∙ ap (λ (b : Bool). Some b) (is_true y.0 y.1))
        where
          is_true : (b : Bool) → slice_get (shared ++ true ∷ []) k ≡ Some b → b ≡ true
          is_true b at = elim (push_cases shared true k b at) [
            | inl before ↦ same_place shared k b true before ((h.all same).1 k (slice_get_within shared k b before))
            | inr last ↦ sym last.1
          ]

-- ---- The splits that are left

-- by what is read it is known whether the edge is shared
pub shared_at : (shared : List Bool) (k : ℕ) (b : Bool) → k < length shared → get_or shared k false ≡ b → slice_get shared k ≡ Some b
shared_at shared k b within is = slice_get-get_or shared k false within ∙ ap (λ (t : Bool). Some t) is

-- the splits so far are those that have an edge before this position which isn't shared
pub record AreSplitsBefore (cells : List (List ℕ)) (sorted : List SortedEdge) (shared : List Bool) (limit end : ℕ) (splits : List TwoPlaces) : Type 0 where
  pub only : (split : TwoPlaces) → Contains splits split → IsUnsharedSplit cells sorted shared split
  pub all : (k : ℕ) (y x : SortedEdge) (split : TwoPlaces) → k < end → slice_get shared k ≡ Some false → slice_get sorted k ≡ Some y → IsOther cells sorted k limit y x → IsTwoOf y.place x.place split → Contains splits split

-- the splits of an edge with others are added
pub record AreSplitsAdded (y : SortedEdge) (found : List SortedEdge) (old new : List TwoPlaces) : Type 0 where
  pub only : (split : TwoPlaces) → Contains new split → Contains old split ⊎ ((x : SortedEdge) × Contains found x × IsTwoOf y.place x.place split)
  pub kept : (split : TwoPlaces) → Contains old split → Contains new split
  pub added : (x : SortedEdge) (split : TwoPlaces) → Contains found x → IsTwoOf y.place x.place split → Contains new split

module _ (cells : List (List ℕ)) (sorted : List SortedEdge) (shared : List Bool) (limit : ℕ) where
  -- two edges that match are such a split if one of them isn't shared
  split_of_two : (k : ℕ) (y x : SortedEdge) (split : TwoPlaces) → slice_get shared k ≡ Some false → slice_get sorted k ≡ Some y → IsOther cells sorted k limit y x → IsTwoOf y.place x.place split → IsUnsharedSplit cells sorted shared split
  split_of_two k y x split alone y_at is two = elim two.1 [
    | inl straight ↦ record {
      k = k;
      l = is.position;
      first = y;
      second = x;
      first_at = y_at;
      second_at = is.at;
      first_place = sym straight.0;
      second_place = sym straight.1;
      in_order = two.0;
      match = is.match;
      unshared = inl alone;
    }
    | inr crossed ↦ record {
      k = is.position;
      l = k;
      first = x;
      second = y;
      first_at = is.at;
      second_at = y_at;
      first_place = sym crossed.0;
      second_place = sym crossed.1;
      in_order = two.0;
      match = match_back _ _ is.match;
      unshared = inr alone;
    }
  ]

  -- a shared edge adds no splits
  pub shared_passed : (end : ℕ) (splits : List TwoPlaces) → slice_get shared end ≡ Some true → AreSplitsBefore cells sorted shared limit end splits → AreSplitsBefore cells sorted shared limit (end + 1) splits
  shared_passed end splits is h = record {
    only = h.only;
    all = λ k y x split less alone. elim (cases_eq k end) [
      | inl here ↦ absurd (true≢false (same_place shared end true false is (ap (slice_get shared) (sym here) ∙ alone)))
      | inr other ↦ h.all k y x split (omega (arith, less, other)) alone
    ];
  }

  -- an edge that isn't shared adds its splits with all others
  pub splits_more : (end : ℕ) (y : SortedEdge) (found : List SortedEdge) (old new : List TwoPlaces) → slice_get shared end ≡ Some false → slice_get sorted end ≡ Some y → AreOthers cells sorted end limit y found
      → AreSplitsAdded y found old new → AreSplitsBefore cells sorted shared limit end old → AreSplitsBefore cells sorted shared limit (end + 1) new
  splits_more end y found old new alone y_at are more h = record {
    only = λ split there. elim (more.only split there) [
      | inl was ↦ h.only split was
      | inr is ↦ split_of_two end y is.0 split alone y_at (are.only is.0 is.1) is.2
    ];
    all = λ k z x split less z_alone z_at is two. elim (cases_eq k end) [
      | inl here ↦ here_too k z x split here z_at is two
      | inr other ↦ more.kept split (h.all k z x split (omega (arith, less, other)) z_alone z_at is two)
    ];
  }
    where
      here_too : (k : ℕ) (z x : SortedEdge) (split : TwoPlaces) → k ≡ end → slice_get sorted k ≡ Some z → IsOther cells sorted k limit z x → IsTwoOf z.place x.place split → Contains new split
      here_too k z x split here z_at is two =
          let same : z ≡ y = same_place sorted end z y (ap (slice_get sorted) (sym here) ∙ z_at) y_at in
          more.added x split (are.all x (subst (λ (w : SortedEdge). IsOther cells sorted end limit w x) same (subst (λ (n : ℕ). IsOther cells sorted n limit z x) here is)))
          (subst (λ (w : SortedEdge). IsTwoOf w.place x.place split) same two)

  -- all positions have been gone through, and the splits are in another order
  module _ (places : (x : SortedEdge) → Contains sorted x → x.place < limit) (count : length shared ≡ length sorted) (splits ordered : List TwoPlaces) (moved : IsPermutation splits ordered)
      (h : AreSplitsBefore cells sorted shared limit (length sorted) splits) where
    -- the edges of a split are at two positions
    two_positions : (split : TwoPlaces) (is : IsUnsharedSplit cells sorted shared split) → is.l ≢ is.k
    two_positions split is e =
        let same : is.first ≡ is.second = same_place sorted is.k is.first is.second is.first_at (ap (slice_get sorted) (sym e) ∙ is.second_at) in
        let place = ap (λ (z : SortedEdge). z.place) same in
        omega (arith, place, is.first_place, is.second_place, is.in_order)

    -- a split is found at the position of its edge that isn't shared
    every_split : (split : TwoPlaces) → IsUnsharedSplit cells sorted shared split → Contains splits split
    every_split split is = elim is.unshared [
      | inl alone ↦ h.all is.k is.first is.second split (slice_get_within sorted is.k is.first is.first_at) alone is.first_at
          (record { position = is.l; apart = two_positions split is; at = is.second_at; match = is.match; before = places is.second (contained sorted is.l is.second is.second_at) })
          (is.in_order, inl (sym is.first_place, sym is.second_place))
      | inr alone ↦ h.all is.l is.second is.first split (slice_get_within sorted is.l is.second is.second_at) alone is.second_at
          (record { position = is.k; apart = λ e. two_positions split is (sym e); at = is.first_at; match = match_back _ _ is.match; before = places is.first (contained sorted is.k is.first is.first_at) })
          (is.in_order, inr (sym is.first_place, sym is.second_place))
    ]

    pub all_splits : AreUnsharedSplits cells sorted shared ordered
    all_splits = record {
      only = λ split there. h.only split (Contains-permutation ordered splits split (IsPermutation-sym splits ordered moved) there);
      all = λ split is. Contains-permutation splits ordered split moved (every_split split is);
    }
