-- What is reached has numbers: so where an exact machine is unambiguous, sets given by numbers are
-- closed.
use Rattle.std.proofs.Common.{◌≡◌, ◌≢◌, ℕ, zero, suc, ◌+◌, ◌≤◌, List, [], ◌∷◌, ◌++◌, ◌⊎◌, inl, inr, Option, None, Some, length, map, refl, sym, ◌∙◌, ap, subst, arith, flat_map, length-append, slice_get}
use Rattle.std.specs.Prelude.{option_and_then, option_map}
use Rattle.std.proofs.lemmas.Bool.{cases_lt}
use Rattle.brl_pairs.specs.declared.step.Pair.{Pair}
use Rattle.brl_pairs.specs.declared.step.Step.{Step}
use Rattle.brl_pairs.specs.Pairs.{Follows, GetsAhead, Splits, StaysBehind, numbered, swapped}
use Rattle.brl_pairs.specs.Runs.{Behaviour, IsExact, IsUnambiguous, KeepsLaws}
use Rattle.brl_closure.specs.Deciding.{HasClosedSets}
use Rattle.brl_closure.specs.Reached.{Reached, ReachedPair, start, step, split, move, other_order}
use Rattle.brl_closure.proofs.TwoRuns.{closed_from_reached}
use Rattle.brl_pairs.proofs.Listing.{IsIn, in-at, in-flat_map, in-left, in-map, in-right}

-- ---- Numbers of what lists have

kept : {X : Type 0} (xs ys : List X) (i : ℕ) (x : X) → slice_get xs i ≡ Some x → slice_get (xs ++ ys) i ≡ Some x
kept [] ys i x h = cc
kept (y ∷ xs) ys zero x h = h
kept (y ∷ xs) ys (suc i) x h = kept xs ys i x h

behind_at : {X : Type 0} (xs ys : List X) (k : ℕ) (x : X) → slice_get ys k ≡ Some x → (i : ℕ) × (length xs + k ≡ i) × (slice_get (xs ++ ys) i ≡ Some x)
behind_at [] ys k x h = (k, omega arith, h)
behind_at (y ∷ xs) ys k x h = (let r = behind_at xs ys k x h in let sum = r.1 in (suc r.0, omega (arith, sum), r.2))

module _ {X : Type 0} (more : ℕ → List X) where
  -- the first lists, and a gap before each
  joined : ℕ → List (Option X)
  joined zero = []
  joined (suc n) = joined n ++ None ∷ map Some (more n)

  number : ℕ → Option X
  number k = option_and_then (λ x. x) (slice_get (joined (suc k)) k)

  long : (n : ℕ) → n ≤ length (joined n)
  unfolding joined
  long zero = omega arith
  long (suc n) = (let before = long n in let size = length-append (joined n) (None ∷ map Some (more n)) in omega (arith, before, size))

  kept_to : (later n i : ℕ) (x : Option X) → n ≤ later → slice_get (joined n) i ≡ Some x → slice_get (joined later) i ≡ Some x
  unfolding joined
  kept_to zero n i x less h = (let none : n ≡ zero = omega (arith, less) in subst (λ k. slice_get (joined k) i ≡ Some x) none h)
  kept_to (suc later) n i x less h = elim (cases_lt later n) [
    | inl over ↦ (let same : n ≡ suc later = omega (arith, less, over) in subst (λ k. slice_get (joined k) i ≡ Some x) same h)
    | inr within ↦ kept (joined later) (None ∷ map Some (more later)) i x (kept_to later n i x within h)
  ]

  has_number : (n : ℕ) (x : X) → IsIn x (more n) → (k : ℕ) × (number k ≡ Some x)
  unfolding number joined
  has_number n x there =
      let some = in-at (Some x) (map Some (more n)) (in-map Some x (more n) there) in
      let place = behind_at (joined n) (None ∷ map Some (more n)) (suc some.0) (Some x) some.1 in
      let size = long n in
      let sum = place.1 in
      (place.0, ap (option_and_then (λ x. x)) (kept_to (suc place.0) (suc n) place.0 (Some x) (omega (arith, size, sum)) place.2))

-- ---- The steps of a list with their places

placed : {X : Type 0} (xs : List X) → List ((i : ℕ) × (x : X) × (slice_get xs i ≡ Some x))
placed [] = []
placed (x ∷ xs) = (0, x, refl) ∷ map (λ t. (suc t.0, t.1, t.2)) (placed xs)

in_placed : {X : Type 0} (xs : List X) (i : ℕ) (x : X) → slice_get xs i ≡ Some x → (t : (i : ℕ) × (x : X) × (slice_get xs i ≡ Some x)) × IsIn t (placed xs) × (t.0 ≡ i) × (t.1 ≡ x)
unfolding placed
in_placed [] i x h = cc
in_placed (y ∷ xs) zero x h = ((0, y, refl), inl refl, refl, cc)
in_placed (y ∷ xs) (suc i) x h = (let r = in_placed xs i x h in ((suc r.0.0, r.0.1, r.0.2), inr (in-map (λ t. (suc t.0, t.1, t.2)) r.0 (placed xs) r.1), ap suc r.2, r.3))

-- ---- The rest of a list after another

equal_or : (a b : ℕ) → (a ≡ b) ⊎ (a ≢ b)
equal_or a b = elim (cases_lt a b) [
  | inl less ↦ inr (λ e. omega (arith, less, e))
  | inr ge ↦ elim (cases_lt b a) [ inl over ↦ inr (λ e. omega (arith, over, e)) | inr le ↦ inl (omega (arith, ge, le)) ]
]

-- the rest of the second list where the first begins it
abbrev Rest : List ℕ → List ℕ → Type 0
Rest xs ys = (rest : List ℕ) × (ys ≡ xs ++ rest)

rest_after : (x : ℕ) (xs : List ℕ) (y : ℕ) (ys : List ℕ) → (y ≡ x) ⊎ (y ≢ x) → Option (Rest xs ys) → Option (Rest (x ∷ xs) (y ∷ ys))
rest_after x xs y ys (inl same) (Some r) = Some (r.0, λ i. same i ∷ r.1 i)
rest_after x xs y ys (inl same) None = None
rest_after x xs y ys (inr other) r = None

rest_of : (xs ys : List ℕ) → Option (Rest xs ys)
rest_of [] ys = Some (ys, refl)
rest_of (x ∷ xs) [] = None
rest_of (x ∷ xs) (y ∷ ys) = rest_after x xs y ys (equal_or y x) (rest_of xs ys)

-- it is this one
abbrev IsRest : (xs ys : List ℕ) → Option (Rest xs ys) → List ℕ → Type 0
IsRest xs ys None rest = ⊥
IsRest xs ys (Some r) rest = r.0 ≡ rest

is_rest_after : (x : ℕ) (xs : List ℕ) (y : ℕ) (ys rest : List ℕ) → y ≡ x → (e : (y ≡ x) ⊎ (y ≢ x)) (r : Option (Rest xs ys)) → IsRest xs ys r rest → IsRest (x ∷ xs) (y ∷ ys) (rest_after x xs y ys e r) rest
unfolding rest_after
is_rest_after x xs y ys rest first (inl same) (Some r) is = is
is_rest_after x xs y ys rest first (inl same) None is = absurd is
is_rest_after x xs y ys rest first (inr other) r is = absurd (other first)

rest_found : (xs ys rest : List ℕ) → ys ≡ xs ++ rest → IsRest xs ys (rest_of xs ys) rest
unfolding rest_of
rest_found [] ys rest h = h
rest_found (x ∷ xs) [] rest h = cc
rest_found (x ∷ xs) (y ∷ ys) rest h =
    let first : y ≡ x = cc in
    let later : ys ≡ xs ++ rest = cc in
    is_rest_after x xs y ys rest first (equal_or y x) (rest_of xs ys) (rest_found xs ys rest later)

-- ---- What is reached

module _ {S : Type 0} (m : Behaviour S) where
  -- a state, and that it is reached; a pair, and that it is
  abbrev AState : Type 0
  AState = (s : S) × Reached m s

  abbrev APair : Type 0
  APair = (p : Pair S) × ReachedPair m p

  abbrev AStep : S → Type 0
  AStep s = (i : ℕ) × (x : Step S) × (slice_get (m.steps s) i ≡ Some x)

  -- ---- States

  nexts : AState → List AState
  nexts e = map (λ (t : AStep e.0). (t.1.next, step e.1 (t.0, t.2))) (placed (m.steps e.0))

  -- the states that this number of steps leads to
  level : ℕ → List AState
  level zero = (m.start, start) ∷ []
  level (suc n) = flat_map nexts (level n)

  in_level : {s : S} → Reached m s → (n : ℕ) × (e : AState) × IsIn e (level n) × (e.0 ≡ s)
  unfolding level nexts
  in_level start = (0, (m.start, start), inl refl, refl)
  in_level (step {s = s} {x = x} reached listed) =
      let before = in_level reached in
      let e = before.1 in
      let t = in_placed (m.steps e.0) listed.0 x (subst (λ s. slice_get (m.steps s) listed.0 ≡ Some x) (sym before.3) listed.1) in
      let next : AState = (t.0.1.next, step e.1 (t.0.0, t.0.2)) in
      (suc before.0, next, in-flat_map nexts e next (level before.0) before.2 (in-map (λ (t : AStep e.0). (t.1.next, step e.1 (t.0, t.2))) t.0 (placed (m.steps e.0)) t.1), ap (λ (x : Step S). x.next) t.3)

  -- ---- Splits

  split_with : (e : AState) (a b : AStep e.0) → (a.0 ≡ b.0) ⊎ (a.0 ≢ b.0) → Option (Rest b.1.cells a.1.cells) → List APair
  split_with e a b (inl same) r = []
  split_with e a b (inr differ) None = []
  split_with e a b (inr differ) (Some r) = (
    record { ahead = a.1.next; behind = b.1.next; lead = r.0 },
    split e.1 (record { i = a.0; j = b.0; longer = a.1; shorter = b.1; differ = differ; longer_listed = a.2; shorter_listed = b.2; ahead = refl; behind = refl; lead = r.1 }),
  ) ∷ []

  split_of : (e : AState) (a b : AStep e.0) → List APair
  split_of e a b = split_with e a b (equal_or a.0 b.0) (rest_of b.1.cells a.1.cells)

  splits_of : AState → List APair
  splits_of e = flat_map (λ (a : AStep e.0). flat_map (split_of e a) (placed (m.steps e.0))) (placed (m.steps e.0))

  -- a pair of a list, and that it is this one
  abbrev Has : List APair → Pair S → Type 0
  Has list p = (f : APair) × IsIn f list × (f.0 ≡ p)

  same_pair : (p : Pair S) (ahead behind : S) (lead : List ℕ) → ahead ≡ p.ahead → behind ≡ p.behind → lead ≡ p.lead → record { ahead = ahead; behind = behind; lead = lead } ≡ p
  same_pair p ahead behind lead a b l = λ i. record { ahead = a i; behind = b i; lead = l i }

  has_split_with : (e : AState) (a b : AStep e.0) (p : Pair S) → a.0 ≢ b.0 → a.1.next ≡ p.ahead → b.1.next ≡ p.behind
      → (d : (a.0 ≡ b.0) ⊎ (a.0 ≢ b.0)) (r : Option (Rest b.1.cells a.1.cells)) → IsRest b.1.cells a.1.cells r p.lead → Has (split_with e a b d r) p
  unfolding split_with
  has_split_with e a b p other ahead behind (inl same) r is = absurd (other same)
  has_split_with e a b p other ahead behind (inr differ) None is = absurd is
  has_split_with e a b p other ahead behind (inr differ) (Some r) is = (_, inl refl, same_pair p a.1.next b.1.next r.0 ahead behind is)

  has_split : (e : AState) (p : Pair S) → Splits (m.steps e.0) p → Has (splits_of e) p
  unfolding splits_of split_of
  has_split e p h =
      let a = in_placed (m.steps e.0) h.i h.longer h.longer_listed in
      let b = in_placed (m.steps e.0) h.j h.shorter h.shorter_listed in
      let cells : a.0.1.cells ≡ b.0.1.cells ++ p.lead = ap (λ (x : Step S). x.cells) a.3 ∙ h.lead ∙ ap (λ (x : Step S). x.cells ++ p.lead) (sym b.3) in
      let f =
      has_split_with e a.0 b.0 p (λ same. h.differ (sym a.2 ∙ same ∙ b.2)) (ap (λ (x : Step S). x.next) a.3 ∙ sym h.ahead) (ap (λ (x : Step S). x.next) b.3 ∙ sym h.behind)
      (equal_or a.0.0 b.0.0) (rest_of b.0.1.cells a.0.1.cells) (rest_found b.0.1.cells a.0.1.cells p.lead cells) in (
        f.0,
        in-flat_map (λ (a : AStep e.0). flat_map (split_of e a) (placed (m.steps e.0))) a.0 f.0 (placed (m.steps e.0)) a.1
            (in-flat_map (split_of e a.0) b.0 f.0 (placed (m.steps e.0)) b.1 f.1),
        f.2,
      )

  -- ---- Moves

  still_with : (e : APair) (t : AStep e.0.behind) → Option (Rest t.1.cells e.0.lead) → List APair
  still_with e t None = []
  still_with e t (Some r) = (
    record { ahead = e.0.ahead; behind = t.1.next; lead = r.0 },
    move e.1 (record { step = t.1; listed = (t.0, t.2); moved = inl (record { ahead = refl; behind = refl; lead = r.1 }) }),
  ) ∷ []

  swap_by : (e : APair) (t : AStep e.0.behind) (rest : List ℕ) → t.1.cells ≡ e.0.lead ++ rest → List APair
  swap_by e t [] is = []
  swap_by e t (c ∷ rest) is = (
    record { ahead = t.1.next; behind = e.0.ahead; lead = c ∷ rest },
    move e.1 (record { step = t.1; listed = (t.0, t.2); moved = inr (record { ahead = refl; behind = refl; some = λ none. cc; lead = is }) }),
  ) ∷ []

  swap_with : (e : APair) (t : AStep e.0.behind) → Option (Rest e.0.lead t.1.cells) → List APair
  swap_with e t None = []
  swap_with e t (Some r) = swap_by e t r.0 r.1

  moves_by : (e : APair) → AStep e.0.behind → List APair
  moves_by e t = still_with e t (rest_of t.1.cells e.0.lead) ++ swap_with e t (rest_of e.0.lead t.1.cells)

  moves_of : APair → List APair
  moves_of e = flat_map (moves_by e) (placed (m.steps e.0.behind))

  has_still : (e : APair) (t : AStep e.0.behind) (q : Pair S) → e.0.ahead ≡ q.ahead → t.1.next ≡ q.behind → (r : Option (Rest t.1.cells e.0.lead)) → IsRest t.1.cells e.0.lead r q.lead → Has (still_with e t r) q
  unfolding still_with
  has_still e t q ahead behind None is = absurd is
  has_still e t q ahead behind (Some r) is = (_, inl refl, same_pair q e.0.ahead t.1.next r.0 ahead behind is)

  has_swap_by : (e : APair) (t : AStep e.0.behind) (q : Pair S) → t.1.next ≡ q.ahead → e.0.ahead ≡ q.behind → q.lead ≢ [] → (rest : List ℕ) (is : t.1.cells ≡ e.0.lead ++ rest) → rest ≡ q.lead → Has (swap_by e t rest is) q
  unfolding swap_by
  has_swap_by e t q ahead behind some [] is same = absurd (some (sym same))
  has_swap_by e t q ahead behind some (c ∷ rest) is same = (_, inl refl, same_pair q t.1.next e.0.ahead (c ∷ rest) ahead behind same)

  has_swap : (e : APair) (t : AStep e.0.behind) (q : Pair S) → t.1.next ≡ q.ahead → e.0.ahead ≡ q.behind → q.lead ≢ [] → (r : Option (Rest e.0.lead t.1.cells)) → IsRest e.0.lead t.1.cells r q.lead → Has (swap_with e t r) q
  unfolding swap_with
  has_swap e t q ahead behind some None is = absurd is
  has_swap e t q ahead behind some (Some r) is = has_swap_by e t q ahead behind some r.0 r.1 is

  has_move_by : (e : APair) (q : Pair S) (t : AStep e.0.behind) (x : Step S) → t.1 ≡ x → StaysBehind e.0 x q ⊎ GetsAhead e.0 x q → Has (moves_by e t) q
  unfolding moves_by
  has_move_by e q t x same (inl h) =
      let cells : e.0.lead ≡ t.1.cells ++ q.lead = h.lead ∙ ap (λ (x : Step S). x.cells ++ q.lead) (sym same) in
      let f = has_still e t q (sym h.ahead) (ap (λ (x : Step S). x.next) same ∙ sym h.behind) (rest_of t.1.cells e.0.lead) (rest_found t.1.cells e.0.lead q.lead cells) in
      (f.0, in-left f.0 (still_with e t (rest_of t.1.cells e.0.lead)) (swap_with e t (rest_of e.0.lead t.1.cells)) f.1, f.2)
  has_move_by e q t x same (inr h) =
      let cells : t.1.cells ≡ e.0.lead ++ q.lead = ap (λ (x : Step S). x.cells) same ∙ h.lead in
      let f = has_swap e t q (ap (λ (x : Step S). x.next) same ∙ sym h.ahead) (sym h.behind) h.some (rest_of e.0.lead t.1.cells) (rest_found e.0.lead t.1.cells q.lead cells) in
      (f.0, in-right f.0 (still_with e t (rest_of t.1.cells e.0.lead)) (swap_with e t (rest_of e.0.lead t.1.cells)) f.1, f.2)

  has_move : (e : APair) (q : Pair S) → Follows m e.0 q → Has (moves_of e) q
  unfolding moves_of
  has_move e q h =
      let t = in_placed (m.steps e.0.behind) h.listed.0 h.step h.listed.1 in
      let f = has_move_by e q t.0 h.step t.3 h.moved in
      (f.0, in-flat_map (moves_by e) t.0 f.0 (placed (m.steps e.0.behind)) t.1 f.1, f.2)

  -- ---- The other order

  other_by : (e : APair) (lead : List ℕ) → e.0.lead ≡ lead → List APair
  other_by e [] none = (swapped e.0, other_order e.1 none) ∷ []
  other_by e (c ∷ lead) some = []

  others_of : APair → List APair
  others_of e = other_by e e.0.lead refl

  has_other : (e : APair) → e.0.lead ≡ [] → Has (others_of e) (swapped e.0)
  unfolding others_of other_by
  has_other e none = by e.0.lead refl none
    where
      by : (lead : List ℕ) (is : e.0.lead ≡ lead) → lead ≡ [] → Has (other_by e lead is) (swapped e.0)
      by [] is e = (_, inl refl, refl)
      by (c ∷ lead) is e = cc

  -- ---- Pairs

  pair_level : ℕ → List APair
  pair_level zero = []
  pair_level (suc n) = flat_map splits_of (level n) ++ (flat_map moves_of (pair_level n) ++ flat_map others_of (pair_level n))

  in_pair_level : {p : Pair S} → ReachedPair m p → (n : ℕ) × Has (pair_level n) p
  unfolding pair_level
  in_pair_level (split {s = s} {p = p} reached h) =
      let before = in_level reached in
      let n = before.0 in
      let f = has_split before.1 p (subst (λ s. Splits (m.steps s) p) (sym before.3) h) in (
        suc n,
        (
          f.0,
          in-left f.0 (flat_map splits_of (level n)) (flat_map moves_of (pair_level n) ++ flat_map others_of (pair_level n))
              (in-flat_map splits_of before.1 f.0 (level n) before.2 f.1),
          f.2,
        ),
      )
  in_pair_level (move {p = p} {q = q} reached h) =
      let before = in_pair_level reached in
      let n = before.0 in
      let e = before.1 in
      let f = has_move e.0 q (subst (λ o. Follows m o q) (sym e.2) h) in (
        suc n,
        (
          f.0,
          in-right f.0 (flat_map splits_of (level n)) (flat_map moves_of (pair_level n) ++ flat_map others_of (pair_level n))
              (in-left f.0 (flat_map moves_of (pair_level n)) (flat_map others_of (pair_level n)) (in-flat_map moves_of e.0 f.0 (pair_level n) e.1 f.1)),
          f.2,
        ),
      )
  in_pair_level (other_order {p = p} reached none) =
      let before = in_pair_level reached in
      let n = before.0 in
      let e = before.1 in
      let f = has_other e.0 (ap (λ (o : Pair S). o.lead) e.2 ∙ none) in (
        suc n,
        (
          f.0,
          in-right f.0 (flat_map splits_of (level n)) (flat_map moves_of (pair_level n) ++ flat_map others_of (pair_level n))
              (in-right f.0 (flat_map moves_of (pair_level n)) (flat_map others_of (pair_level n)) (in-flat_map others_of e.0 f.0 (pair_level n) e.1 f.1)),
          f.2 ∙ ap swapped e.2,
        ),
      )

  -- ---- Closed sets

  state_of : ℕ → Option S
  state_of k = option_map (λ (e : AState). e.0) (number level k)

  pair_of : ℕ → Option (Pair S)
  pair_of k = option_map (λ (e : APair). e.0) (number pair_level k)

  from_state : (s : S) → (numbered state_of pair_of).has_state s → Reached m s
  unfolding state_of
  from_state s (k, at) = by (number level k) at
    where
      by : (e : Option AState) → option_map (λ (e : AState). e.0) e ≡ Some s → Reached m s
      by None at = cc
      by (Some e) at = (let same : e.0 ≡ s = cc in subst (Reached m) same e.1)

  from_pair : (p : Pair S) → (numbered state_of pair_of).has_pair p → ReachedPair m p
  unfolding pair_of
  from_pair p (k, at) = by (number pair_level k) at
    where
      by : (e : Option APair) → option_map (λ (e : APair). e.0) e ≡ Some p → ReachedPair m p
      by None at = cc
      by (Some e) at = (let same : e.0 ≡ p = cc in subst (ReachedPair m) same e.1)

  to_state : (s : S) → Reached m s → (numbered state_of pair_of).has_state s
  unfolding state_of
  to_state s reached =
      let at = in_level reached in
      let k = has_number level at.0 at.1 at.2 in
      (k.0, ap (option_map (λ (e : AState). e.0)) k.1 ∙ ap Some at.3)

  to_pair : (p : Pair S) → ReachedPair m p → (numbered state_of pair_of).has_pair p
  unfolding pair_of
  to_pair p reached =
      let at = in_pair_level reached in
      let k = has_number pair_level at.0 at.1.0 at.1.1 in
      (k.0, ap (option_map (λ (e : APair). e.0)) k.1 ∙ ap Some at.1.2)

  pub some_closed : KeepsLaws m → IsExact m → IsUnambiguous m → HasClosedSets m
  some_closed laws exact single = (state_of, pair_of, closed_from_reached m laws exact single (numbered state_of pair_of) from_state from_pair to_state (λ p reached. inl (to_pair p reached)))
