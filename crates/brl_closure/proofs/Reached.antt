-- What is found is reached, and nothing is found twice.
use Rattle.std.proofs.Common.{◌≡◌, ℕ, zero, suc, ◌<◌, List, [], ◌∷◌, ◌++◌, ◌⊎◌, inl, inr, length, Some, slice_get, refl, sym, ◌∙◌, ap, subst, arith}
use Rattle.brl_pairs.specs.Members.{HaveOneNumber}
use Rattle.brl_pairs.specs.Body.{NumberPair, listed}
use Rattle.brl_pairs.specs.Pairs.{GetsAhead, StaysBehind, swapped}
use Rattle.brl_pairs.specs.Runs.{Behaviour}
use Rattle.brl_pairs.specs.declared.step.Pair.{Pair}
use Rattle.brl_pairs.specs.declared.step.Step.{Step}
use Rattle.brl_closure.specs.Answers.{AreInOrder, HasReachedPairs, HasReachedStates, HasTwoEndsReached}
use Rattle.brl_closure.specs.Reached.{AtLeast, Reached, ReachedPair, SamePair, SameState, start, step, split, move}
use Rattle.brl_closure.specs.Trail.{TakesStep, IsSplitOf, StaysBehindOf, GetsAheadOf, IsPairOrigin, IsEarlier, HasTwoEnds, IsTraced}
use Rattle.brl_closure.specs.declared.search.trail.PairOrigin.{PairOrigin}
use Rattle.brl_closure.specs.declared.search.trail.PairOrigin.TheVariants.{Split, Still, Swapped}
use Rattle.brl_closure.specs.declared.search.trail.Trail.{Trail}
use Rattle.brl_closure.proofs.Naming.{Names, named_at}
use Rattle.brl_pairs.proofs.Lists.{inside, same_place}

module _ {S : Type 0} (m : Behaviour S) (t : Trail S) (traced : IsTraced m t) where
  -- ---- States

  below_reached : (n k : ℕ) (s : S) → k < n → slice_get t.states k ≡ Some s → Reached m s
  below_reached zero k s less at = absurd (omega (arith, less))
  below_reached (suc n) zero s less at = subst (Reached m) (same_place t.states 0 m.start s traced.start at) start
  below_reached (suc n) (suc k) s less at =
      let found = traced.each_state (suc k) s (omega arith) at in
      let by = found.found in
      let earlier = found.earlier in
      let parent = below_reached n found.origin.parent by.taken.state (omega (arith, earlier, less)) by.taken.at in
      subst (Reached m) by.next (step parent (by.place, by.taken.listed))

  pub state_reached : (k : ℕ) (s : S) → slice_get t.states k ≡ Some s → Reached m s
  state_reached k s at = below_reached (suc k) k s (omega arith) at

  -- ---- Pairs

  -- the pair that numbers name
  name_each : (n : ℕ) (q : NumberPair) → slice_get t.pairs n ≡ Some q → (p : Pair S) × Names t.states q p
  name_each n q at =
      let range = traced.in_range n q at in
      let a = inside t.states q.ahead range.ahead in
      let b = inside t.states q.behind range.behind in
      (record { ahead = a.0; behind = b.0; lead = q.lead }, record { ahead = a.1; behind = b.1; lead = refl })

  one_state : (k : ℕ) (a b : S) → slice_get t.states k ≡ Some a → slice_get t.states k ≡ Some b → a ≡ b
  one_state k a b x y = same_place t.states k a b x y

  by_split : (q : NumberPair) (p : Pair S) (number longer shorter : ℕ) → Names t.states q p → IsSplitOf m t.states number longer shorter q → ReachedPair m p
  by_split q p number longer shorter names h =
      let x = h.ahead_step in
      let y = h.behind_step in
      let s = h.ahead_taken.state in
      let same : h.behind_taken.state ≡ s = one_state number h.behind_taken.state s h.behind_taken.at h.ahead_taken.at in
      split (state_reached number s h.ahead_taken.at) (record {
        i = longer;
        j = shorter;
        longer = x;
        shorter = y;
        differ = h.differ;
        longer_listed = h.ahead_taken.listed;
        shorter_listed = subst (λ (z : S). slice_get (m.steps z) shorter ≡ Some y) same h.behind_taken.listed;
        ahead = one_state q.ahead p.ahead x.next names.ahead h.ahead;
        behind = one_state q.behind p.behind y.next names.behind h.behind;
        lead = h.lead ∙ ap (λ (l : List ℕ). y.cells ++ l) names.lead;
      })

  -- a pair is reached by a step of the run behind
  by_step : (r : NumberPair) (o p : Pair S) (place : ℕ) (x : Step S) → Names t.states r o → TakesStep m t.states r.behind place x → ReachedPair m o → StaysBehind o x p ⊎ GetsAhead o x p → ReachedPair m p
  by_step r o p place x before taken reached moved =
      let same : taken.state ≡ o.behind = one_state r.behind taken.state o.behind taken.at before.behind in
      move reached (record { step = x; listed = (place, subst (λ (z : S). slice_get (m.steps z) place ≡ Some x) same taken.listed); moved = moved })

  by_still : (r q : NumberPair) (o p : Pair S) (place : ℕ) → Names t.states r o → Names t.states q p → StaysBehindOf m t.states r place q → ReachedPair m o → ReachedPair m p
  by_still r q o p place before names h reached =
      by_step r o p place h.step before h.taken reached (inl (record {
        ahead = one_state r.ahead p.ahead o.ahead (ap (slice_get t.states) (sym h.ahead) ∙ names.ahead) before.ahead;
        behind = one_state q.behind p.behind h.step.next names.behind h.behind;
        lead = sym before.lead ∙ h.lead ∙ ap (λ (l : List ℕ). h.step.cells ++ l) names.lead;
      }))

  by_swap : (r q : NumberPair) (o p : Pair S) (place : ℕ) → Names t.states r o → Names t.states q p → GetsAheadOf m t.states r place q → ReachedPair m o → ReachedPair m p
  by_swap r q o p place before names h reached =
      by_step r o p place h.step before h.taken reached (inr (record {
        ahead = one_state q.ahead p.ahead h.step.next names.ahead h.ahead;
        behind = one_state r.ahead p.behind o.ahead (ap (slice_get t.states) (sym h.behind) ∙ names.behind) before.ahead;
        some = λ none. h.some (names.lead ∙ none);
        lead = h.lead ∙ ap (λ (l : List ℕ). l ++ q.lead) before.lead ∙ ap (λ (l : List ℕ). o.lead ++ l) names.lead;
      }))

  pair_below : (n k : ℕ) (q : NumberPair) (p : Pair S) → k < n → slice_get t.pairs k ≡ Some q → Names t.states q p → ReachedPair m p
  pair_below zero k q p less at names = absurd (omega (arith, less))
  pair_below (suc n) k q p less at names =
      let found = traced.each_pair k q at in
      by found.origin found.earlier found.found (λ j r o before r_at o_names. pair_below n j r o (omega (arith, before, less)) r_at o_names)
    where
      by : (o : PairOrigin) → IsEarlier k o → IsPairOrigin m t.states t.pairs q o → ((j : ℕ) (r : NumberPair) (o : Pair S) → j < k → slice_get t.pairs j ≡ Some r → Names t.states r o → ReachedPair m o) → ReachedPair m p
      by (Split number longer shorter) earlier h back = by_split q p number longer shorter names h
      by (Still number place) earlier h back =
          let r = name_each number h.0 h.1 in
          by_still h.0 q r.0 p place r.1 names h.2 (back number h.0 r.0 earlier h.1 r.1)
      by (Swapped number place) earlier h back =
          let r = name_each number h.0 h.1 in
          by_swap h.0 q r.0 p place r.1 names h.2 (back number h.0 r.0 earlier h.1 r.1)

  pub pair_reached : (n : ℕ) (q : NumberPair) (p : Pair S) → slice_get t.pairs n ≡ Some q → Names t.states q p → ReachedPair m p
  pair_reached n q p at names = pair_below (suc n) n q p (omega arith) at names

  -- ---- Of a body, and of two ends

  pub body_states : HasReachedStates m (listed t.states t.pairs)
  body_states k s at = state_reached k s at

  pub body_pairs : HasReachedPairs m (listed t.states t.pairs)
  body_pairs n p at = (let h = named_at t.states t.pairs n p at in pair_reached n h.numbers p h.at h.names)

  pub in_order : AreInOrder m t.states
  in_order = record {
    first = traced.start;
    each = λ number s some at.
        (let f = traced.each_state number s some at in record {
          lesser = f.origin.parent;
          is_lesser = f.earlier;
          state = f.found.taken.state;
          at = f.found.taken.at;
          step = f.found.step;
          listed = (f.found.place, f.found.taken.listed);
          next = f.found.next;
        });
  }

  pub two_ends_reached : (n : ℕ) (q : NumberPair) → slice_get t.pairs n ≡ Some q → HasTwoEnds m t.states q → HasTwoEndsReached m
  two_ends_reached n q at h = record {
    pair = record { ahead = h.ahead; behind = h.behind; lead = q.lead };
    reached = pair_reached n q (record { ahead = h.ahead; behind = h.behind; lead = q.lead }) at (record { ahead = h.ahead_at; behind = h.behind_at; lead = refl });
    no_lead = h.no_lead;
    ahead_ends = h.ahead_ends;
    behind_ends = h.behind_ends;
  }

  -- ---- Counts

  module _ (one : HaveOneNumber t.states) where
    -- a state has one number
    one_number : (i j : ℕ) (a b : S) → slice_get t.states i ≡ Some a → slice_get t.states j ≡ Some b → a ≡ b → i ≡ j
    one_number i j a b a_at b_at same = one i j a a_at (b_at ∙ ap (λ (s : S). Some s) (sym same))

    states_apart : (i j : ℕ) (a b : S) → i < j → slice_get t.states i ≡ Some a → slice_get t.states j ≡ Some b → a ≡ b → ⊥
    states_apart i j a b less a_at b_at same = omega (arith, less, one_number i j a b a_at b_at same)

    pub states_counted : AtLeast (length t.states) SameState (Reached m)
    states_counted = record {
      list = t.states;
      count = refl;
      each = λ i s at. state_reached i s at;
      differ = λ i j a b less a_at b_at same. states_apart i j a b less a_at b_at same;
    }

    -- the pairs that numbers name, one by one
    all_named : (qs : List NumberPair) → ((k : ℕ) (q : NumberPair) → slice_get qs k ≡ Some q → (p : Pair S) × Names t.states q p) → List (Pair S)
    all_named [] f = []
    all_named (q ∷ qs) f = (f 0 q refl).0 ∷ all_named qs (λ k r at. f (suc k) r at)

    all_count : (qs : List NumberPair) (f : (k : ℕ) (q : NumberPair) → slice_get qs k ≡ Some q → (p : Pair S) × Names t.states q p) → length (all_named qs f) ≡ length qs
    unfolding all_named
    all_count [] f = refl
    all_count (q ∷ qs) f = ap suc (all_count qs (λ k r at. f (suc k) r at))

    all_at : (qs : List NumberPair) (f : (k : ℕ) (q : NumberPair) → slice_get qs k ≡ Some q → (p : Pair S) × Names t.states q p) (k : ℕ) (p : Pair S) → slice_get (all_named qs f) k ≡ Some p → (q : NumberPair) × (slice_get qs k ≡ Some q) × Names t.states q p
    unfolding all_named
    all_at [] f k p at = cc
    all_at (q ∷ qs) f zero p at =
        let same : (f 0 q refl).0 ≡ p = cc in
        (q, refl, subst (Names t.states q) same (f 0 q refl).1)
    all_at (q ∷ qs) f (suc k) p at = all_at qs (λ j r r_at. f (suc j) r r_at) k p at

    same_numbers : (q r : NumberPair) (p o : Pair S) → Names t.states q p → Names t.states r o → p ≡ o → q ≡ r
    same_numbers q r p o q_names r_names same =
        let ahead : q.ahead ≡ r.ahead = one_number q.ahead r.ahead p.ahead o.ahead q_names.ahead r_names.ahead (ap (λ (z : Pair S). z.ahead) same) in
        let behind : q.behind ≡ r.behind = one_number q.behind r.behind p.behind o.behind q_names.behind r_names.behind (ap (λ (z : Pair S). z.behind) same) in
        let lead : q.lead ≡ r.lead = q_names.lead ∙ ap (λ (z : Pair S). z.lead) same ∙ sym r_names.lead in
        λ i. record { ahead = ahead i; behind = behind i; lead = lead i }

    pairs_apart : (i j : ℕ) (q r : NumberPair) (p o : Pair S) → i < j → slice_get t.pairs i ≡ Some q → slice_get t.pairs j ≡ Some r → Names t.states q p → Names t.states r o → SamePair p o → ⊥
    pairs_apart i j q r p o less q_at r_at q_names r_names (inl same) = (traced.differ i j q r less q_at r_at).in_this_order (same_numbers q r p o q_names r_names same)
    pairs_apart i j q r p o less q_at r_at q_names r_names (inr same) =
        (traced.differ i j q r less q_at r_at).in_other_order (q_names.lead ∙ same.0)
        (same_numbers (swapped q) r (swapped p) o (record { ahead = q_names.behind; behind = q_names.ahead; lead = q_names.lead }) r_names same.1)

    pub pairs_counted : AtLeast (length t.pairs) SamePair (ReachedPair m)
    pairs_counted = record {
      list = all_named t.pairs name_each;
      count = all_count t.pairs name_each;
      each = λ i p at. (let q = all_at t.pairs name_each i p at in pair_reached i q.0 p q.1 q.2);
      differ = λ i j p o less p_at o_at same.
          (let q = all_at t.pairs name_each i p p_at in
          let r = all_at t.pairs name_each j o o_at in
          pairs_apart i j q.0 r.0 p o less q.1 r.1 q.2 r.2 same);
    }
