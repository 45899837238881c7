-- What is found stays found where a trail grows.
use Rattle.std.proofs.Common.{◌≡◌, ℕ, ◌+◌, ◌<◌, ◌≤◌, IsTrue, List, [], ◌∷◌, ◌++◌, inl, inr, length, Some, slice_get, sym, ◌∙◌, ap, subst, arith}
use Rattle.std.proofs.lemmas.Option.{slice_get_within}
use Rattle.brl_pairs.specs.Body.{IsPairOf, NumberPair}
use Rattle.brl_pairs.specs.declared.step.Step.{Step}
use Rattle.brl_pairs.specs.Runs.{Behaviour}
use Rattle.brl_closure.specs.declared.search.finder.Finder.{Finder}
use Rattle.brl_closure.specs.declared.search.trail.StateOrigin.{StateOrigin}
use Rattle.brl_closure.specs.declared.search.trail.PairOrigin.{PairOrigin}
use Rattle.brl_closure.specs.declared.search.trail.PairOrigin.TheVariants.{Split, Still, Swapped}
use Rattle.brl_closure.specs.declared.search.trail.Trail.{Trail}
use Rattle.brl_closure.specs.SearchView.{Stays}
use Rattle.brl_closure.specs.Trail.{Advances, TakesStep, IsStateOrigin, IsFoundState, IsSplitOf, StaysBehindOf, GetsAheadOf, IsPairOrigin, IsEarlier, IsFoundPair, DifferAsPairs, IsTraced, HasTwoEnds, IsActive, Extends}
use Rattle.brl_closure.proofs.Growing.{stays_push, stays_refl, stays_trans}
use Rattle.brl_pairs.proofs.Lists.{push_last, push_cases, length_push, inside, same_place}

module _ {S : Type 0} (m : Behaviour S) where
  pub taken_more : (xs ys : List S) → Stays xs ys → (number place : ℕ) (x : Step S) → TakesStep m xs number place x → TakesStep m ys number place x
  taken_more xs ys stays number place x h = record { state = h.state; at = stays number h.state h.at; listed = h.listed }

  pub state_origin_more : (xs ys : List S) → Stays xs ys → (s : S) (o : StateOrigin) → IsStateOrigin m xs s o → IsStateOrigin m ys s o
  state_origin_more xs ys stays s o h = record { place = h.place; step = h.step; taken = taken_more xs ys stays o.parent h.place h.step h.taken; next = h.next }

  split_more : (xs ys : List S) → Stays xs ys → (number longer shorter : ℕ) (p : NumberPair) → IsSplitOf m xs number longer shorter p → IsSplitOf m ys number longer shorter p
  split_more xs ys stays number longer shorter p h = record {
    ahead_step = h.ahead_step;
    behind_step = h.behind_step;
    differ = h.differ;
    ahead_taken = taken_more xs ys stays number longer h.ahead_step h.ahead_taken;
    behind_taken = taken_more xs ys stays number shorter h.behind_step h.behind_taken;
    ahead = stays p.ahead h.ahead_step.next h.ahead;
    behind = stays p.behind h.behind_step.next h.behind;
    lead = h.lead;
  }

  still_more : (xs ys : List S) → Stays xs ys → (q : NumberPair) (place : ℕ) (p : NumberPair) → StaysBehindOf m xs q place p → StaysBehindOf m ys q place p
  still_more xs ys stays q place p h = record { step = h.step; taken = taken_more xs ys stays q.behind place h.step h.taken; ahead = h.ahead; behind = stays p.behind h.step.next h.behind; lead = h.lead }

  swapped_more : (xs ys : List S) → Stays xs ys → (q : NumberPair) (place : ℕ) (p : NumberPair) → GetsAheadOf m xs q place p → GetsAheadOf m ys q place p
  swapped_more xs ys stays q place p h = record {
    step = h.step;
    taken = taken_more xs ys stays q.behind place h.step h.taken;
    ahead = stays p.ahead h.step.next h.ahead;
    behind = h.behind;
    some = h.some;
    lead = h.lead;
  }

  pub pair_origin_more : (xs ys : List S) (ps qs : List NumberPair) → Stays xs ys → Stays ps qs → (p : NumberPair) (o : PairOrigin) → IsPairOrigin m xs ps p o → IsPairOrigin m ys qs p o
  pair_origin_more xs ys ps qs stays kept p (Split number longer shorter) h = split_more xs ys stays number longer shorter p h
  pair_origin_more xs ys ps qs stays kept p (Still number place) h = (h.0, kept number h.0 h.1, still_more xs ys stays h.0 place p h.2)
  pair_origin_more xs ys ps qs stays kept p (Swapped number place) h = (h.0, kept number h.0 h.1, swapped_more xs ys stays h.0 place p h.2)

  -- ---- One more state

  found_more : (xs ys : List S) (os : List StateOrigin) (o : StateOrigin) → Stays xs ys → (k : ℕ) (s : S) → IsFoundState m xs os k s → IsFoundState m ys (os ++ o ∷ []) k s
  found_more xs ys os o stays k s h = record {
    origin = h.origin;
    kept = stays_push os o k h.origin h.kept;
    earlier = h.earlier;
    found = state_origin_more xs ys stays s h.origin h.found;
  }

  found_last : (xs : List S) (os : List StateOrigin) (s : S) (o : StateOrigin) → length os ≡ length xs → IsStateOrigin m xs s o → IsFoundState m (xs ++ s ∷ []) (os ++ o ∷ []) (length xs) s
  found_last xs os s o many h = record {
    origin = o;
    kept = ap (slice_get (os ++ o ∷ [])) (sym many) ∙ push_last os o;
    earlier = slice_get_within xs o.parent h.taken.state h.taken.at;
    found = state_origin_more xs (xs ++ s ∷ []) (stays_push xs s) s o h;
  }

  -- the pairs of a trail with more states
  pairs_more : (xs ys : List S) (ps : List NumberPair) (os : List PairOrigin) → Stays xs ys → (n : ℕ) (p : NumberPair) → IsFoundPair m xs ps os n p → IsFoundPair m ys ps os n p
  pairs_more xs ys ps os stays n p h = record {
    origin = h.origin;
    kept = h.kept;
    earlier = h.earlier;
    found = pair_origin_more xs ys ps ps stays (stays_refl ps) p h.origin h.found;
  }

  module _ (t : Trail S) (s : S) (o : StateOrigin) (so : List StateOrigin) where
    each_state_push : IsTraced m t → IsStateOrigin m t.states s o → so ≡ t.state_origins.items ++ o ∷ [] → (k : ℕ) (r : S) → 0 < k → slice_get (t.states ++ s ∷ []) k ≡ Some r → IsFoundState m (t.states ++ s ∷ []) so k r
    each_state_push h origin same k r some at =
        subst (λ (os : List StateOrigin). IsFoundState m (t.states ++ s ∷ []) os k r) (sym same)
        (elim (push_cases t.states s k r at) [
          | inl before ↦ found_more t.states (t.states ++ s ∷ []) t.state_origins.items o (stays_push t.states s) k r (h.each_state k r some before)
          | inr last ↦
              subst (λ (j : ℕ). IsFoundState m (t.states ++ s ∷ []) (t.state_origins.items ++ o ∷ []) j r) (sym last.0)
              (subst (λ (z : S). IsFoundState m (t.states ++ s ∷ []) (t.state_origins.items ++ o ∷ []) (length t.states) z) last.1
              (found_last t.states t.state_origins.items s o h.state_origins origin))
        ])

  pub state_pushed : (t u : Trail S) (s : S) (o : StateOrigin) → IsTraced m t → IsStateOrigin m t.states s o
      → u.states ≡ t.states ++ s ∷ [] → u.state_origins.items ≡ t.state_origins.items ++ o ∷ [] → u.pairs ≡ t.pairs → u.pair_origins.items ≡ t.pair_origins.items → IsTraced m u
  state_pushed t u s o h origin states origins pairs pair_origins =
      let grown : length u.states ≡ length t.states + 1 = ap length states ∙ length_push t.states s in
      record {
        start = ap (λ (xs : List S). slice_get xs 0) states ∙ stays_push t.states s 0 m.start h.start;
        state_origins = ap length origins ∙ length_push t.state_origins.items o ∙ ap (λ (n : ℕ). n + 1) h.state_origins ∙ sym grown;
        pair_origins = ap length pair_origins ∙ h.pair_origins ∙ ap length (sym pairs);
        each_state = λ k r some at.
            subst (λ (xs : List S). IsFoundState m xs u.state_origins.items k r) (sym states)
            (each_state_push t s o u.state_origins.items h origin origins k r some (ap (λ (xs : List S). slice_get xs k) (sym states) ∙ at));
        each_pair = λ n p at.
            let before = h.each_pair n p (ap (λ (ps : List NumberPair). slice_get ps n) (sym pairs) ∙ at) in
            subst (λ (xs : List S). IsFoundPair m xs u.pairs u.pair_origins.items n p) (sym states)
            (subst (λ (ps : List NumberPair). IsFoundPair m (t.states ++ s ∷ []) ps u.pair_origins.items n p) (sym pairs)
            (subst (λ (os : List PairOrigin). IsFoundPair m (t.states ++ s ∷ []) t.pairs os n p) (sym pair_origins)
            (pairs_more t.states (t.states ++ s ∷ []) t.pairs t.pair_origins.items (stays_push t.states s) n p before)));
        in_range = λ n p at.
            let before = h.in_range n p (ap (λ (ps : List NumberPair). slice_get ps n) (sym pairs) ∙ at) in
            record { ahead = omega (arith, before.ahead, grown); behind = omega (arith, before.behind, grown); lead = before.lead };
        differ = λ i j p q lt at_i at_j.
            h.differ i j p q lt (ap (λ (ps : List NumberPair). slice_get ps i) (sym pairs) ∙ at_i) (ap (λ (ps : List NumberPair). slice_get ps j) (sym pairs) ∙ at_j);
      }

  -- where states are added, two ends of a pair were two ends before
  pub ends_before : (xs ys : List S) → Stays xs ys → (p : NumberPair) → IsPairOf (length xs) p → HasTwoEnds m ys p → HasTwoEnds m xs p
  ends_before xs ys stays p range h =
      let a = inside xs p.ahead range.ahead in
      let b = inside xs p.behind range.behind in
      let same_a : h.ahead ≡ a.0 = same_place ys p.ahead h.ahead a.0 h.ahead_at (stays p.ahead a.0 a.1) in
      let same_b : h.behind ≡ b.0 = same_place ys p.behind h.behind b.0 h.behind_at (stays p.behind b.0 b.1) in
      record {
        no_lead = h.no_lead;
        ahead = a.0;
        behind = b.0;
        ahead_at = a.1;
        behind_at = b.1;
        ahead_ends = subst (λ (z : S). IsTrue (m.ends z)) same_a h.ahead_ends;
        behind_ends = subst (λ (z : S). IsTrue (m.ends z)) same_b h.behind_ends;
      }

module _ {S : Type 0} where
  pub extends_refl : (t : Trail S) → Extends t t
  extends_refl t = record { states = stays_refl t.states; pairs = stays_refl t.pairs; more_states = omega arith; more_pairs = omega arith }

  pub extends_trans : (t u v : Trail S) → Extends t u → Extends u v → Extends t v
  extends_trans t u v a b = record {
    states = stays_trans t.states u.states v.states a.states b.states;
    pairs = stays_trans t.pairs u.pairs v.pairs a.pairs b.pairs;
    more_states = omega (arith, a.more_states, b.more_states);
    more_pairs = omega (arith, a.more_pairs, b.more_pairs);
  }

module _ {S : Type 0} (m : Behaviour S) where
  -- ---- One more pair

  pair_found_more : (xs : List S) (ps qs : List NumberPair) (os : List PairOrigin) (o : PairOrigin) → Stays ps qs → (n : ℕ) (p : NumberPair) → IsFoundPair m xs ps os n p → IsFoundPair m xs qs (os ++ o ∷ []) n p
  pair_found_more xs ps qs os o stays n p h = record {
    origin = h.origin;
    kept = stays_push os o n h.origin h.kept;
    earlier = h.earlier;
    found = pair_origin_more m xs xs ps qs (stays_refl xs) stays p h.origin h.found;
  }

  -- an origin among these pairs is earlier than the pair that comes next
  origin_earlier : (xs : List S) (ps : List NumberPair) (p : NumberPair) (o : PairOrigin) → IsPairOrigin m xs ps p o → IsEarlier (length ps) o
  origin_earlier xs ps p (Split number longer shorter) h = tt
  origin_earlier xs ps p (Still number place) h = slice_get_within ps number h.0 h.1
  origin_earlier xs ps p (Swapped number place) h = slice_get_within ps number h.0 h.1

  pair_found_last : (xs : List S) (ps : List NumberPair) (os : List PairOrigin) (p : NumberPair) (o : PairOrigin) → length os ≡ length ps → IsPairOrigin m xs ps p o → IsFoundPair m xs (ps ++ p ∷ []) (os ++ o ∷ []) (length ps) p
  pair_found_last xs ps os p o many h = record {
    origin = o;
    kept = ap (slice_get (os ++ o ∷ [])) (sym many) ∙ push_last os o;
    earlier = origin_earlier xs ps p o h;
    found = pair_origin_more m xs xs ps (ps ++ p ∷ []) (stays_refl xs) (stays_push ps p) p o h;
  }

  module _ (t : Trail S) (p : NumberPair) (o : PairOrigin) where
    each_pair_push : IsTraced m t → IsPairOrigin m t.states t.pairs p o → (n : ℕ) (q : NumberPair) → slice_get (t.pairs ++ p ∷ []) n ≡ Some q → IsFoundPair m t.states (t.pairs ++ p ∷ []) (t.pair_origins.items ++ o ∷ []) n q
    each_pair_push h origin n q at =
        elim (push_cases t.pairs p n q at) [
          | inl before ↦ pair_found_more t.states t.pairs (t.pairs ++ p ∷ []) t.pair_origins.items o (stays_push t.pairs p) n q (h.each_pair n q before)
          | inr last ↦
              subst (λ (j : ℕ). IsFoundPair m t.states (t.pairs ++ p ∷ []) (t.pair_origins.items ++ o ∷ []) j q) (sym last.0)
              (subst (λ (z : NumberPair). IsFoundPair m t.states (t.pairs ++ p ∷ []) (t.pair_origins.items ++ o ∷ []) (length t.pairs) z) last.1
              (pair_found_last t.states t.pairs t.pair_origins.items p o h.pair_origins origin))
        ]

    range_push : IsTraced m t → IsPairOf (length t.states) p → (n : ℕ) (q : NumberPair) → slice_get (t.pairs ++ p ∷ []) n ≡ Some q → IsPairOf (length t.states) q
    range_push h range n q at = elim (push_cases t.pairs p n q at) [
      | inl before ↦ h.in_range n q before
      | inr last ↦ subst (λ (z : NumberPair). IsPairOf (length t.states) z) last.1 range
    ]

    differ_push : IsTraced m t → ((n : ℕ) (q : NumberPair) → slice_get t.pairs n ≡ Some q → DifferAsPairs q p) → (i j : ℕ) (q r : NumberPair) → i < j → slice_get (t.pairs ++ p ∷ []) i ≡ Some q → slice_get (t.pairs ++ p ∷ []) j ≡ Some r → DifferAsPairs q r
    differ_push h new i j q r lt q_at r_at = elim (push_cases t.pairs p j r r_at) [
      | inl r_before ↦ elim (push_cases t.pairs p i q q_at) [
        | inl q_before ↦ h.differ i j q r lt q_before r_before
        | inr q_last ↦ (let within = slice_get_within t.pairs j r r_before in let here = q_last.0 in absurd (omega arith))
      ]
      | inr r_last ↦ elim (push_cases t.pairs p i q q_at) [
        | inl q_before ↦ subst (DifferAsPairs q) r_last.1 (new i q q_before)
        | inr q_last ↦ (let one = q_last.0 in let other = r_last.0 in absurd (omega arith))
      ]
    ]

  pub pair_pushed : (t u : Trail S) (p : NumberPair) (o : PairOrigin) → IsTraced m t → IsPairOrigin m t.states t.pairs p o → IsPairOf (length t.states) p
      → ((n : ℕ) (q : NumberPair) → slice_get t.pairs n ≡ Some q → DifferAsPairs q p)
      → u.states ≡ t.states → u.state_origins.items ≡ t.state_origins.items → u.pairs ≡ t.pairs ++ p ∷ [] → u.pair_origins.items ≡ t.pair_origins.items ++ o ∷ [] → IsTraced m u
  pair_pushed t u p o h origin range new states state_origins pairs origins = record {
    start = ap (λ (xs : List S). slice_get xs 0) states ∙ h.start;
    state_origins = ap length state_origins ∙ h.state_origins ∙ ap length (sym states);
    pair_origins = ap length origins ∙ length_push t.pair_origins.items o ∙ ap (λ (n : ℕ). n + 1) h.pair_origins ∙ sym (length_push t.pairs p) ∙ ap length (sym pairs);
    each_state = λ k s some at.
        subst (λ (xs : List S). IsFoundState m xs u.state_origins.items k s) (sym states)
        (subst (λ (os : List StateOrigin). IsFoundState m t.states os k s) (sym state_origins)
        (h.each_state k s some (ap (λ (xs : List S). slice_get xs k) (sym states) ∙ at)));
    each_pair = λ n q at.
        subst (λ (xs : List S). IsFoundPair m xs u.pairs u.pair_origins.items n q) (sym states)
        (subst (λ (ps : List NumberPair). IsFoundPair m t.states ps u.pair_origins.items n q) (sym pairs)
        (subst (λ (os : List PairOrigin). IsFoundPair m t.states (t.pairs ++ p ∷ []) os n q) (sym origins)
        (each_pair_push t p o h origin n q (ap (λ (ps : List NumberPair). slice_get ps n) (sym pairs) ∙ at))));
    in_range = λ n q at.
        subst (λ (xs : List S). IsPairOf (length xs) q) (sym states)
        (range_push t p o h range n q (ap (λ (ps : List NumberPair). slice_get ps n) (sym pairs) ∙ at));
    differ = λ i j q r lt q_at r_at.
        differ_push t p o h new i j q r lt (ap (λ (ps : List NumberPair). slice_get ps i) (sym pairs) ∙ q_at) (ap (λ (ps : List NumberPair). slice_get ps j) (sym pairs) ∙ r_at);
  }

module _ {M S : Type 0} (behaviour : M → Behaviour S) (f : Finder M S) where
  -- ---- What a step keeps

  pub advances_refl : (t : Trail S) → IsActive behaviour f t → Advances behaviour f t t
  advances_refl t active = (active, extends_refl t)

  pub advances_trans : (t u v : Trail S) → Advances behaviour f t u → Advances behaviour f u v → Advances behaviour f t v
  advances_trans t u v a b = (b.0, extends_trans t u v a.1 b.1)

  pub state_active : (t u : Trail S) (s : S) (o : StateOrigin) → IsActive behaviour f t → IsStateOrigin (behaviour f.machine.now) t.states s o
      → u.states ≡ t.states ++ s ∷ [] → u.state_origins.items ≡ t.state_origins.items ++ o ∷ [] → u.pairs ≡ t.pairs → u.pair_origins.items ≡ t.pair_origins.items
      → length u.states ≤ f.limit → IsActive behaviour f u
  state_active t u s o h origin states origins pairs pair_origins few = record {
    laws = h.laws;
    traced = state_pushed (behaviour f.machine.now) t u s o h.traced origin states origins pairs pair_origins;
    few_states = few;
    few_pairs = let same : length u.pairs ≡ length t.pairs = ap length pairs in omega (arith, h.few_pairs, same);
    small = h.small;
    no_two_ends = λ n p at two.
        let before : slice_get t.pairs n ≡ Some p = ap (λ (ps : List NumberPair). slice_get ps n) (sym pairs) ∙ at in
        h.no_two_ends n p before
        (ends_before (behaviour f.machine.now) t.states u.states (subst (Stays t.states) (sym states) (stays_push t.states s)) p (h.traced.in_range n p before) two);
  }

  pub pair_active : (t u : Trail S) (p : NumberPair) (o : PairOrigin) → IsActive behaviour f t → IsPairOrigin (behaviour f.machine.now) t.states t.pairs p o → IsPairOf (length t.states) p
      → ((n : ℕ) (q : NumberPair) → slice_get t.pairs n ≡ Some q → DifferAsPairs q p) → (HasTwoEnds (behaviour f.machine.now) t.states p → ⊥)
      → u.states ≡ t.states → u.state_origins.items ≡ t.state_origins.items → u.pairs ≡ t.pairs ++ p ∷ [] → u.pair_origins.items ≡ t.pair_origins.items ++ o ∷ []
      → length u.pairs ≤ f.limit → IsActive behaviour f u
  pair_active t u p o h origin range new ends states state_origins pairs origins few = record {
    laws = h.laws;
    traced = pair_pushed (behaviour f.machine.now) t u p o h.traced origin range new states state_origins pairs origins;
    few_states = let same : length u.states ≡ length t.states = ap length states in omega (arith, h.few_states, same);
    few_pairs = few;
    small = h.small;
    no_two_ends = λ n q at two.
        let two_before : HasTwoEnds (behaviour f.machine.now) t.states q = subst (λ (xs : List S). HasTwoEnds (behaviour f.machine.now) xs q) states two in
        elim (push_cases t.pairs p n q (ap (λ (ps : List NumberPair). slice_get ps n) (sym pairs) ∙ at)) [
          | inl before ↦ h.no_two_ends n q before two_before
          | inr last ↦ ends (subst (HasTwoEnds (behaviour f.machine.now) t.states) (sym last.1) two_before)
        ];
  }
