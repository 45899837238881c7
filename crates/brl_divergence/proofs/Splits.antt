-- Two edges of a state, and the pair into which their steps split.
use Rattle.std.proofs.Common.{◌≡◌, ℕ, ◌≤◌, List, [], ◌∷◌, ◌⊎◌, inl, inr, length, Some, slice_get, refl, sym, ◌∙◌, ap, ap₂, subst, arith}
use Rattle.brl_pairs.specs.Body.{NumberPair}
use Rattle.brl_pairs.specs.Divergence.{has_rules}
use Rattle.brl_pairs.specs.Edges.{IsEdge}
use Rattle.brl_pairs.specs.NumberPairs.{IsFollowed}
use Rattle.brl_pairs.specs.Runs.{Behaviour, KeepsLaws}
use Rattle.brl_pairs.specs.Sorted.{cells_of, or_none}
use Rattle.brl_pairs.specs.declared.edge.Edge.{Edge}
use Rattle.brl_pairs.specs.declared.sorted.SortedEdge.{SortedEdge}
use Rattle.brl_pairs.specs.declared.step.Step.{Step}
use Rattle.brl_pairs.proofs.EdgesLaws as edges_laws
use Rattle.brl_pairs.proofs.Lists.{same_place}
use Rattle.brl_closure.specs.Diverging.{AreRulesAt, ComeOf, ComesOf}
use Rattle.brl_closure.specs.Edges.{Explains, FitsFollowing}
use Rattle.brl_closure.specs.SearchView.{Stays}
use Rattle.brl_closure.specs.Trail.{AddsPairs, IsMoveOf, IsOneOf, TakesStep}
use Rattle.brl_closure.specs.declared.search.trail.PairOrigin.{PairOrigin}
use Rattle.brl_closure.specs.declared.search.trail.PairOrigin.TheVariants.{Split, Still, Swapped}
use Rattle.brl_closure.specs.declared.search.trail.Trail.{Trail}
use Rattle.brl_closure.proofs.Edges.{explains_split, fits_splitting}
use Rattle.brl_closure.proofs.There.{followed_more}
use Rattle.brl_divergence.specs.Expanded.{AreTwoEdges}
use Rattle.brl_divergence.specs.Found.{AreFollowed, IsOfSplit}
use Rattle.brl_divergence.proofs.Rules.{has_one, has_one_back}
use Rattle.brl_divergence.proofs.Trails.{added_kind}

module _ {S : Type 0} (m : Behaviour S) (states : List S) (cells : List (List ℕ)) (number : ℕ) (x y : SortedEdge) (rules : ℕ × ℕ) (h : AreTwoEdges m states cells number x y rules) where
  -- the cells of the two edges
  pub one_cells : cells_of cells x ≡ h.first.edge.cells
  one_cells = ap or_none h.first.same_cells

  pub other_cells : cells_of cells y ≡ h.second.edge.cells
  other_cells = ap or_none h.second.same_cells

  pub two_fit : KeepsLaws m → FitsFollowing (length states) x.next (cells_of cells x) y.next (cells_of cells y)
  two_fit laws =
      rw (one_cells, other_cells, h.first.same_next, h.second.same_next)
      (fits_splitting m laws states number h.edges h.are_edges x.place y.place h.first.edge h.second.edge h.first.at h.second.at)

  pub two_explain : KeepsLaws m → (pairs : List NumberPair)
      → Explains m states pairs x.next (cells_of cells x) y.next (cells_of cells y) (record { still = Split number x.place y.place; swapped = Split number y.place x.place })
  two_explain laws pairs =
      rw (one_cells, other_cells, h.first.same_next, h.second.same_next)
      (explains_split m laws states pairs number h.edges h.are_edges x.place y.place h.first.edge h.second.edge h.in_order h.first.at h.second.at)

  -- the edge of a step at a place
  edge_at : (place : ℕ) (e : Edge) → slice_get h.edges place ≡ Some e → (s : Step S) → TakesStep m states number place s → IsEdge states s e
  edge_at place e e_at s taken =
      let same : taken.state ≡ h.are_edges.state = same_place states number taken.state h.are_edges.state taken.at h.are_edges.at in
      h.are_edges.listed.each place s e (subst (λ (z : S). slice_get (m.steps z) place ≡ Some s) same taken.listed) e_at

  -- the pair into which two steps split is among the pairs where what follows by their edges is
  pub steps_followed : (pairs : List NumberPair) → ((e : Edge) → e.next ≡ y.next → e.cells ≡ cells_of cells y → IsFollowed pairs x.next (cells_of cells x) e)
      → (s r : Step S) → TakesStep m states number x.place s → TakesStep m states number y.place r → AreFollowed states pairs s r
  steps_followed pairs follows s r s_taken r_taken = record {
    one = h.first.edge;
    other = h.second.edge;
    one_is = edge_at x.place h.first.edge h.first.at s s_taken;
    other_is = edge_at y.place h.second.edge h.second.at r r_taken;
    followed =
        subst (λ (n : ℕ). IsFollowed pairs n h.first.edge.cells h.second.edge) h.first.same_next
        (subst (λ (own : List ℕ). IsFollowed pairs x.next own h.second.edge) one_cells
        (follows h.second.edge (sym h.second.same_next) (sym other_cells)));
  }

  -- the rules of the steps
  pub one_rule : (s : Step S) → TakesStep m states number x.place s → rules.0 ≡ s.rule
  one_rule s taken = h.first_rule ∙ (edge_at x.place h.first.edge h.first.at s taken).rule

  pub other_rule : (s : Step S) → TakesStep m states number y.place s → rules.1 ≡ s.rule
  other_rule s taken = h.second_rule ∙ (edge_at y.place h.second.edge h.second.at s taken).rule

  -- they ascend
  pub rules_ascend : KeepsLaws m → rules.0 ≤ rules.1
  rules_ascend laws =
      let less = edges_laws.in_order m laws states number h.edges h.are_edges x.place y.place h.first.edge h.second.edge h.in_order h.first.at h.second.at in
      omega (arith, less, h.first_rule, h.second_rule)

  -- the pair of rules of a split by these edges, in either order
  two_rules : (longer shorter : ℕ) → ((longer ≡ x.place) × (shorter ≡ y.place)) ⊎ ((longer ≡ y.place) × (shorter ≡ x.place)) → AreRulesAt m states number longer shorter rules.0 rules.1
  two_rules longer shorter (inl is) s r s_taken r_taken =
      let one = one_rule s (subst (λ (n : ℕ). TakesStep m states number n s) is.0 s_taken) in
      let other = other_rule r (subst (λ (n : ℕ). TakesStep m states number n r) is.1 r_taken) in
      ap₂ (λ (a b : ℕ). has_rules ((rules.0, rules.1) ∷ []) a b) (sym one) (sym other) ∙ has_one rules.0 rules.1
  two_rules longer shorter (inr is) s r s_taken r_taken =
      let one = other_rule s (subst (λ (n : ℕ). TakesStep m states number n s) is.0 s_taken) in
      let other = one_rule r (subst (λ (n : ℕ). TakesStep m states number n r) is.1 r_taken) in
      ap₂ (λ (a b : ℕ). has_rules ((rules.0, rules.1) ∷ []) a b) (sym one) (sym other) ∙ has_one_back rules.0 rules.1

  comes_of : (from : ℕ) (o : PairOrigin) → IsOfSplit number x.place y.place from o → ComesOf m states rules.0 rules.1 from o
  comes_of from (Split state longer shorter) of =
      subst (λ (n : ℕ). AreRulesAt m states n longer shorter rules.0 rules.1) (sym of.0) (two_rules longer shorter of.1)
  comes_of from (Still pair place) of = of
  comes_of from (Swapped pair place) of = of

  -- pairs that were added by exploring the split come of its rules
  pub added_come : (t u : Trail S) → t.states ≡ states → length t.pair_origins.items ≡ length t.pairs → AddsPairs (IsOfSplit number x.place y.place (length t.pairs)) t u
      → ComeOf m rules.0 rules.1 (length t.pairs) u
  added_come t u is many adds n o low at =
      subst (λ (xs : List S). ComesOf m xs rules.0 rules.1 (length t.pairs) o) (sym (adds.states ∙ is))
      (comes_of (length t.pairs) o (added_kind (IsOfSplit number x.place y.place (length t.pairs)) t u adds many n o low at))

-- the two origins of a split
pub split_origin : (number i j from : ℕ) (o : PairOrigin) → IsOneOf (record { still = Split number i j; swapped = Split number j i }) o → IsOfSplit number i j from o
split_origin number i j from o (inl is) = subst (IsOfSplit number i j from) (sym is) (refl, inl (refl, refl))
split_origin number i j from o (inr is) = subst (IsOfSplit number i j from) (sym is) (refl, inr (refl, refl))

-- a step of a pair from this number on
pub move_of_split : (number i j from next : ℕ) → from ≤ next → (o : PairOrigin) → IsMoveOf next o → IsOfSplit number i j from o
move_of_split number i j from next low (Split state longer shorter) is = absurd is
move_of_split number i j from next low (Still pair place) is = subst (λ (n : ℕ). from ≤ n) (sym is) low
move_of_split number i j from next low (Swapped pair place) is = subst (λ (n : ℕ). from ≤ n) (sym is) low

-- two steps that are followed stay so where pairs are added
pub followed_on : {S : Type 0} (t u : Trail S) → u.states ≡ t.states → Stays t.pairs u.pairs → (x y : Step S) → AreFollowed t.states t.pairs x y → AreFollowed u.states u.pairs x y
followed_on t u states pairs x y h =
    subst (λ (xs : _). AreFollowed xs u.pairs x y) (sym states)
    (record { one = h.one; other = h.other; one_is = h.one_is; other_is = h.other_is; followed = followed_more t.pairs u.pairs pairs h.one.next h.one.cells h.other h.followed })
