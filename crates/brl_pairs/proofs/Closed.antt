-- Closed sets of states and pairs: two paths to final states that give the same cells differ by
-- exchanges alone, up to a place where they diverge at one of the pairs of rules but for which the
-- sets are closed. Where no steps are exchanged they are one path up to there.
use Rattle.std.proofs.Common.{◌≡◌, ◌≢◌, ℕ, ◌+◌, ◌≤◌, Bool, true, false, ◌&&◌, ◌||◌, nat_eq, IsTrue, List, [], ◌∷◌, ◌++◌, ◌⊎◌, inl, inr, length, zero, suc, Some, refl, sym, ◌∙◌, ap, ap₂, subst, arith, eq-eqb, slice_get}
use Rattle.std.specs.Cmp.{first_so, second_so}
use Rattle.std.proofs.lemmas.List.{append_cancel_left}
use Rattle.std.proofs.lemmas.List.Elements.{same_from_all_zip}
use Rattle.std.proofs.lemmas.Bool.{cases_eq, eqb-true}
use Rattle.brl_pairs.specs.declared.step.Pair.{Pair}
use Rattle.brl_pairs.specs.declared.step.Step.{Step}
use Rattle.brl_pairs.specs.Runs.{Accepts, Behaviour, IsExact, IsListed, IsPath, KeepsLaws, IsUnambiguous, reads_of, cells_of}
use Rattle.brl_pairs.specs.Pairs.{Sets, HasPair, IsClosed, swapped}
use Rattle.brl_pairs.specs.Exchanges.{AreAlike, AreExcused, DifferByExchanges, DifferByExchangesBut, DivergeAfterExchanges, IsClosedUpTo, PathsDifferByExchangesBut, TextsDifferByExchangesBut}
use Rattle.brl_pairs.specs.Divergence.{DivergeAt, DivergeOnlyAt, HasEachClash, HasEachDivergence, HaveRules, IsClosedBut, IsCompleteList, IsUnambiguousBut, has_rules}
use Rattle.brl_pairs.proofs.Divergence.{diverge_once, either_rules, no_divergence, one_step, places_differ}

-- of two lists that begin a list, one begins the other
pub split_appends : {A : Type 0} (a b c d : List A) → a ++ b ≡ c ++ d
    → ((rest : List A) × (a ≡ c ++ rest) × (rest ++ b ≡ d)) ⊎ ((rest : List A) × (rest ≢ []) × (c ≡ a ++ rest) × (b ≡ rest ++ d))
split_appends a b [] d e = inl (a, refl, e)
split_appends [] b (y ∷ c) d e = inr (y ∷ c, (λ h. cc), refl, e)
split_appends (x ∷ a) b (y ∷ c) d e =
    let tail : a ++ b ≡ c ++ d = cc in
    let head : x ≡ y = cc in
    elim (split_appends a b c d tail) [
      | inl t ↦ inl (t.0, (let h : a ≡ c ++ t.0 = t.1 in cc), t.2)
      | inr t ↦ inr (t.0, t.1, (let h : c ≡ a ++ t.0 = t.2 in cc), t.3)
    ]

-- lists that give no element joined are empty
both_empty : {A : Type 0} (xs ys : List A) → xs ++ ys ≡ [] → (xs ≡ []) × (ys ≡ [])
both_empty [] ys e = (refl, e)
both_empty (x ∷ xs) ys e = cc

module _ {S : Type 0} (exchanged rules : List (ℕ × ℕ)) where
  -- the two steps in the other order
  excused_back : (x y : Step S) → AreExcused exchanged rules x y → AreExcused exchanged rules y x
  excused_back x y (inl have) = inl (either_rules rules y.rule x.rule ∙ have)
  excused_back x y (inr exchange) = inr (record {
    rules = either_rules exchanged y.rule x.rule ∙ exchange.rules;
    cells = sym exchange.cells;
    next = sym exchange.next;
  })

  -- with two alike steps before them
  after : (x y : Step S) (first second : List (Step S)) → AreAlike exchanged x y → DifferByExchangesBut exchanged rules first second → DifferByExchangesBut exchanged rules (x ∷ first) (y ∷ second)
  after x y first second alike (inl rest) = inl (alike, rest)
  after x y first second alike (inr at) = inr (record {
    first_before = x ∷ at.first_before;
    second_before = y ∷ at.second_before;
    one = at.one;
    other = at.other;
    first_rest = at.first_rest;
    second_rest = at.second_rest;
    before = (alike, at.before);
    differ = at.differ;
    pair = at.pair;
    first_steps = ap (λ (l : List (Step S)). x ∷ l) at.first_steps;
    second_steps = ap (λ (l : List (Step S)). y ∷ l) at.second_steps;
  })

module _ {S : Type 0} (m : Behaviour S) (sets : Sets S) (laws : KeepsLaws m) (exchanged rules : List (ℕ × ℕ)) (closed : IsClosedUpTo m exchanged rules sets) where
  -- the runs of such pairs, of at most n steps together, don't end with the same cells
  abbrev Apart : (Pair S → Type 0) → ℕ → Type 0
  Apart Has n = (p : Pair S) → Has p → (first second : List (Step S)) → IsPath m p.ahead first → IsPath m p.behind second
      → length first + length second ≤ n → p.lead ++ cells_of first ≡ cells_of second → ⊥

  gives_cells : (s : S) (x : Step S) (path : List (Step S)) → IsListed (m.steps s) x → x.cells ++ cells_of path ≡ [] → ⊥
  gives_cells s x path listed e =
      let some = (laws.good_steps s x listed).some_cells in
      let none = ap length (both_empty x.cells (cells_of path) e).0 in
      absurd (omega (arith, some, none))

  -- a path that gives no cells has no steps
  ends_here : (s : S) (path : List (Step S)) → IsPath m s path → cells_of path ≡ [] → IsTrue (m.ends s)
  ends_here s [] h e = h
  ends_here s (x ∷ path) h e = absurd (gives_cells s x path h.0 e)

  -- in either order
  either : (n : ℕ) → Apart sets.has_pair n → Apart (HasPair sets) n
  either n h p (inl has) first second a b few e = h p has first second a b few e
  either n h p (inr has) first second a b few e =
      let empty = has.0 in
      h (swapped p) has.1 second first b a (omega arith)
      (ap (λ l. l ++ cells_of second) empty ∙ sym e ∙ ap (λ l. l ++ cells_of first) empty)

  -- the run behind moves
  moved : (n : ℕ) → Apart sets.has_pair n → Apart sets.has_pair (suc n)
  moved n h p has first [] a b few e =
      let empty = both_empty p.lead (cells_of first) e in
      closed.ends p has empty.0 (ends_here p.ahead first a empty.1) b
  moved n h p has first (y ∷ second) a b few e =
      elim (split_appends p.lead (cells_of first) y.cells (cells_of second) e) [
        | inl t ↦ (
            let q : Pair S = record { ahead = p.ahead; behind = y.next; lead = t.0 } in
            let there = closed.moves p q has (record { step = y; listed = b.0; moved = inl (record { ahead = refl; behind = refl; lead = t.1 }) }) in
            either n h q there first second a b.1 (omega arith) t.2)
        | inr t ↦ (
            let q : Pair S = record { ahead = y.next; behind = p.ahead; lead = t.0 } in
            let there = closed.moves p q has (record { step = y; listed = b.0; moved = inr (record { ahead = refl; behind = refl; some = t.1; lead = t.2 }) }) in
            either n h q there second first b.1 a (omega arith) (sym t.3))
      ]

  -- of two runs with no steps at all
  ended : Apart sets.has_pair 0
  ended p has [] [] a b few e = closed.ends p has (both_empty p.lead [] e).0 a b
  ended p has (x ∷ first) second a b few e = absurd (omega arith)
  ended p has [] (y ∷ second) a b few e = absurd (omega arith)

  never : (n : ℕ) → Apart sets.has_pair n
  never zero = ended
  never (suc n) = moved n (never n)

  -- runs that split and end with the same cells do so with two steps that are excused
  split_excused : (s : S) → sets.has_state s → (i j : ℕ) (x y : Step S) → i ≢ j → slice_get (m.steps s) i ≡ Some x → slice_get (m.steps s) j ≡ Some y → (rest : List ℕ) → x.cells ≡ y.cells ++ rest
      → (first second : List (Step S)) → IsPath m x.next first → IsPath m y.next second → rest ++ cells_of first ≡ cells_of second → AreExcused exchanged rules x y
  split_excused s has i j x y differ x_at y_at rest longer first second a b same =
      let p : Pair S = record { ahead = x.next; behind = y.next; lead = rest } in
      let n = length first + length second in
      elim (closed.splits s p has (record {
        i = i;
        j = j;
        longer = x;
        shorter = y;
        differ = differ;
        longer_listed = x_at;
        shorter_listed = y_at;
        ahead = refl;
        behind = refl;
        lead = longer;
      })) [
        | inl excused ↦ excused
        | inr there ↦ absurd (either n (never n) p there first second a b (omega arith) same)
      ]

  -- two such steps, of which either has the longer cells
  next_excused : (s : S) → sets.has_state s → (i j : ℕ) (x y : Step S) → i ≢ j → slice_get (m.steps s) i ≡ Some x → slice_get (m.steps s) j ≡ Some y
      → (first second : List (Step S)) → IsPath m x.next first → IsPath m y.next second → x.cells ++ cells_of first ≡ y.cells ++ cells_of second → AreExcused exchanged rules x y
  next_excused s has i j x y differ x_at y_at first second a b e =
      elim (split_appends x.cells (cells_of first) y.cells (cells_of second) e) [
        | inl t ↦ split_excused s has i j x y differ x_at y_at t.0 t.1 first second a b t.2
        | inr t ↦ excused_back exchanged rules y x (split_excused s has j i y x (λ h. differ (sym h)) y_at x_at t.0 t.2 second first b a (sym t.3))
      ]

  -- two paths from a state of the set that give the same cells differ by exchanges, to their ends
  -- or up to a place where they diverge at one of the pairs of rules
  differ_from : (s : S) → sets.has_state s → (first second : List (Step S)) → IsPath m s first → IsPath m s second → cells_of first ≡ cells_of second
      → DifferByExchangesBut exchanged rules first second
  differ_from s has [] [] a b e = inl tt
  differ_from s has [] (y ∷ second) a b e = absurd (gives_cells s y second b.0 (sym e))
  differ_from s has (x ∷ first) [] a b e = absurd (gives_cells s x first a.0 e)
  differ_from s has (x ∷ first) (y ∷ second) a b e =
      let on : AreAlike exchanged x y → x.cells ≡ y.cells → x.next ≡ y.next → DifferByExchangesBut exchanged rules (x ∷ first) (y ∷ second) = λ alike cells next.
      (let from_y : IsPath m y.next first = subst (λ (r : S). IsPath m r first) next a.1 in
      let left : cells_of first ≡ cells_of second =
      append_cancel_left y.cells (cells_of first) (cells_of second) (ap (λ (l : List ℕ). l ++ cells_of first) (sym cells) ∙ e) in
      after exchanged rules x y first second alike (differ_from y.next (closed.steps s y has b.0) first second from_y b.1 left)) in
      elim (cases_eq a.0.0 b.0.0) [
        | inl same ↦ (
            let one : x ≡ y = one_step (m.steps s) a.0.0 b.0.0 x y same a.0.1 b.0.1 in
            on (inl one) (ap (λ (z : Step S). z.cells) one) (ap (λ (z : Step S). z.next) one))
        | inr other ↦
            elim (next_excused s has a.0.0 b.0.0 x y other a.0.1 b.0.1 first second a.1 b.1 e) [
              | inl have ↦ inr (record {
                first_before = [];
                second_before = [];
                one = x;
                other = y;
                first_rest = first;
                second_rest = second;
                before = tt;
                differ = places_differ m laws s a.0.0 b.0.0 x y other a.0.1 b.0.1;
                pair = have;
                first_steps = refl;
                second_steps = refl;
              })
              | inr exchange ↦ on (inr exchange) exchange.cells exchange.next
            ]
      ]

  -- two such paths from the start
  pub paths_differ_from_closed : PathsDifferByExchangesBut exchanged rules m
  paths_differ_from_closed first second a b e = differ_from m.start closed.start first second a b e

  -- and the paths of two texts with the same translation
  pub texts_differ_from_closed : TextsDifferByExchangesBut exchanged rules m
  texts_differ_from_closed left right is_left is_right same =
      let p = laws.accepts left is_left in
      let q = laws.accepts right is_right in
      (p, q, paths_differ_from_closed p.path q.path p.is_path q.is_path (p.cells ∙ same ∙ sym q.cells))

-- ---- No exchanges

-- no pair of rules is one of none
none_have : (r s : ℕ) → IsTrue (has_rules [] r s) → ⊥
none_have r s h = cc

module _ {S : Type 0} where
  -- lists that differ by no exchanges are the same
  same_without_exchanges : (first second : List (Step S)) → DifferByExchanges [] first second → first ≡ second
  same_without_exchanges first second h = sym (same_from_all_zip (AreAlike []) first second h one)
    where
      one : (x y : Step S) → AreAlike [] x y → y ≡ x
      one x y (inl same) = sym same
      one x y (inr exchange) = absurd (none_have x.rule y.rule exchange.rules)

  -- lists that diverge after none diverge
  diverge_without_exchanges : (rules : List (ℕ × ℕ)) (first second : List (Step S)) → DivergeAfterExchanges [] rules first second → DivergeAt rules first second
  diverge_without_exchanges rules first second at = (
    record {
      before = at.second_before;
      one = at.one;
      other = at.other;
      first_rest = at.first_rest;
      second_rest = at.second_rest;
      differ = at.differ;
      first_steps = at.first_steps ∙ ap (λ (l : List (Step S)). l ++ at.one ∷ at.first_rest) (same_without_exchanges at.first_before at.second_before at.before);
      second_steps = at.second_steps;
    },
    at.pair,
  )

module _ {S : Type 0} (m : Behaviour S) (sets : Sets S) (laws : KeepsLaws m) (rules : List (ℕ × ℕ)) (closed : IsClosedBut m rules sets) where
  -- closed sets are closed with no exchanges
  closed_without_exchanges : IsClosedUpTo m [] rules sets
  closed_without_exchanges = record {
    start = closed.start;
    steps = closed.steps;
    splits = λ s p has h. elim (closed.splits s p has h) [ inl have ↦ inl (inl have) | inr there ↦ inr there ];
    moves = closed.moves;
    ends = closed.ends;
  }

  -- sets that are closed but for some pairs of rules leave paths with the same cells no other place
  -- to diverge at
  pub diverges_from_closed : DivergeOnlyAt rules m
  diverges_from_closed first second a b e =
      elim (paths_differ_from_closed m sets laws [] rules closed_without_exchanges first second a b e) [
        | inl same ↦ inl (same_without_exchanges first second same)
        | inr at ↦ inr (diverge_without_exchanges rules first second at)
      ]

-- ---- Lists of pairs of rules

module _ {S : Type 0} (m : Behaviour S) where
  -- then each divergence of two such paths is at one of the pairs of rules
  pub each_divergence : (rules : List (ℕ × ℕ)) → DivergeOnlyAt rules m → HasEachDivergence rules m
  each_divergence rules only first second a b e at =
      elim (only first second a b e) [
        | inl same ↦ absurd (no_divergence first second same at)
        | inr found ↦ (
            let once = diverge_once first second found.0 at in
            subst (λ (x : Step S). HaveRules rules x at.other) once.1 (subst (λ (y : Step S). HaveRules rules found.0.one y) once.2 found.1))
      ]

  -- and so are those of the paths that accept two texts
  pub texts_from_paths : KeepsLaws m → (rules : List (ℕ × ℕ)) → DivergeOnlyAt rules m → IsUnambiguousBut rules m
  texts_from_paths laws rules only left right is_left is_right same =
      let p = laws.accepts left is_left in
      let q = laws.accepts right is_right in
      elim (only p.path q.path p.is_path q.is_path (p.cells ∙ same ∙ sym q.cells)) [
        | inl one ↦ inl (sym p.reads ∙ ap reads_of one ∙ q.reads)
        | inr diverge ↦ inr (p, q, diverge)
      ]

  -- closed sets are closed but for no pairs of rules
  closed_but_none : (sets : Sets S) → IsClosed m sets → IsClosedBut m [] sets
  closed_but_none sets closed = record {
    start = closed.start;
    steps = closed.steps;
    splits = λ s p has h. inr (closed.splits s p has h);
    moves = closed.moves;
    ends = closed.ends;
  }

  -- closed sets leave no two texts with the same translation
  pub unambiguous_from_closed : (sets : Sets S) → KeepsLaws m → IsClosed m sets → IsUnambiguous m
  unambiguous_from_closed sets laws closed left right is_left is_right same =
      elim (texts_from_paths laws [] (diverges_from_closed m sets laws [] (closed_but_none sets closed)) left right is_left is_right same) [
        | inl one ↦ one
        | inr found ↦ absurd (none_have found.2.0.one.rule found.2.0.other.rule found.2.1)
      ]

-- ---- Clashes

-- the rules of a pair are the two that it has, in either order
rules_of_one : (r s a b : ℕ) → has_rules ((r, s) ∷ []) a b ≡ true → ((r ≡ a) × (s ≡ b)) ⊎ ((r ≡ b) × (s ≡ a))
rules_of_one r s a b h = by_order (nat_eq r a && nat_eq s b) (nat_eq r b && nat_eq s a) refl refl h
  where
    by_order : (c d : Bool) → (nat_eq r a && nat_eq s b) ≡ c → (nat_eq r b && nat_eq s a) ≡ d → ((c || d) || false) ≡ true → ((r ≡ a) × (s ≡ b)) ⊎ ((r ≡ b) × (s ≡ a))
    by_order true d first second is = inl (eqb-true r a (first_so _ _ first), eqb-true s b (second_so (nat_eq r a) _ first))
    by_order false true first second is = inr (eqb-true r b (first_so _ _ second), eqb-true s a (second_so (nat_eq r b) _ second))
    by_order false false first second is = cc

-- what has the rules of two steps of a pair has the pair
pair_there : (rules : List (ℕ × ℕ)) (r s a b : ℕ) → has_rules ((r, s) ∷ []) a b ≡ true → has_rules rules a b ≡ true → has_rules rules r s ≡ true
pair_there rules r s a b of_pair have =
    elim (rules_of_one r s a b of_pair) [
      | inl same ↦ ap₂ (has_rules rules) same.0 same.1 ∙ have
      | inr same ↦ ap₂ (has_rules rules) same.0 same.1 ∙ either_rules rules b a ∙ have
    ]

own_rules : (r s : ℕ) → has_rules ((r, s) ∷ []) r s ≡ true
own_rules r s =
    ap (λ b. ((b && nat_eq s s) || (nat_eq r s && nat_eq s r)) || false) (eq-eqb r r refl)
    ∙ ap (λ b. ((true && b) || (nat_eq r s && nat_eq s r)) || false) (eq-eqb s s refl)

module _ {S : Type 0} (m : Behaviour S) (exact : IsExact m) where
  -- ---- Divergences of paths, and clashes

  pub clashes_from_divergences : (rules : List (ℕ × ℕ)) → HasEachDivergence rules m → HasEachClash rules m
  clashes_from_divergences rules each r s left right at =
      let p = at.diverge.0 in
      let q = at.diverge.1 in
      let found = at.diverge.2.0 in
      pair_there rules r s found.one.rule found.other.rule at.diverge.2.1 (each p.path q.path p.is_path q.is_path (p.cells ∙ at.same_cells ∙ sym q.cells) found)

  abbrev accepts_own : (path : List (Step S)) → IsPath m m.start path → Accepts m (reads_of path)
  accepts_own path is = record { path = path; is_path = is; reads = refl; cells = exact.translates path is }

  pub divergences_from_clashes : (rules : List (ℕ × ℕ)) → HasEachClash rules m → HasEachDivergence rules m
  divergences_from_clashes rules each first second a b e at =
      each at.one.rule at.other.rule (reads_of first) (reads_of second) (record {
        left_text = exact.text first a;
        right_text = exact.text second b;
        differ = λ same. no_divergence first second (exact.one_path first second a b same) at;
        same_cells = sym (exact.translates first a) ∙ e ∙ exact.translates second b;
        diverge = (accepts_own first a, accepts_own second b, (at, own_rules at.one.rule at.other.rule));
      })

  -- ---- One complete list

  -- the pairs of one complete list are those of the other
  within : (rules others : List (ℕ × ℕ)) → IsCompleteList m rules → IsCompleteList m others → (r s : ℕ) → has_rules rules r s ≡ true → has_rules others r s ≡ true
  within rules others is also r s have =
      let clash = is.each r s have in
      let left = clash.0 in
      let right = clash.1 in
      let at = clash.2 in
      let p = at.diverge.0 in
      let q = at.diverge.1 in
      let found = at.diverge.2.0 in
      let of_pair : has_rules ((r, s) ∷ []) found.one.rule found.other.rule ≡ true = at.diverge.2.1 in
      elim (also.no_other left right at.left_text at.right_text at.same_cells) [
        | inl same ↦ absurd (at.differ same)
        | inr other ↦ (
            let v = other.0 in
            let w = other.1 in
            let one_left : v.path ≡ p.path = exact.one_path v.path p.path v.is_path p.is_path (v.reads ∙ sym p.reads) in
            let one_right : w.path ≡ q.path = exact.one_path w.path q.path w.is_path q.is_path (w.reads ∙ sym q.reads) in
            let moved : DivergeAt others p.path q.path =
            subst (λ (l : List (Step S)). DivergeAt others p.path l) one_right (subst (λ (l : List (Step S)). DivergeAt others l w.path) one_left other.2) in
            let once = diverge_once p.path q.path moved.0 found in
            let there : HaveRules others found.one found.other =
            subst (λ (x : Step S). HaveRules others x found.other) once.1 (subst (λ (y : Step S). HaveRules others moved.0.one y) once.2 moved.1) in
            pair_there others r s found.one.rule found.other.rule of_pair there)
      ]

  -- two complete lists of an exact machine have the same pairs of rules
  pub one_list : (rules others : List (ℕ × ℕ)) → IsCompleteList m rules → IsCompleteList m others → (r s : ℕ) → has_rules rules r s ≡ has_rules others r s
  one_list rules others is also r s = both (has_rules rules r s) (has_rules others r s) refl refl
    where
      both : (a b : Bool) → has_rules rules r s ≡ a → has_rules others r s ≡ b → a ≡ b
      both true b e f = sym (within rules others is also r s e) ∙ f
      both false true e f = sym e ∙ within others rules also is r s f
      both false false e f = refl
