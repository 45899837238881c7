-- The steps of the states that are expanded.
use Rattle.std.proofs.Common.{◌≡◌, ℕ, ◌+◌, ◌<◌, List, [], ◌∷◌, ◌++◌, inl, inr, length, Some, slice_get, get_or, refl, sym, ◌∙◌, ap, subst, arith}
use Rattle.std.specs.Prelude.{Contains}
use Rattle.std.specs.Global.{Vec}
use Rattle.std.specs.Option.{option_map}
use Rattle.std.proofs.lemmas.List.{length-map}
use Rattle.std.proofs.lemmas.Option.{slice_get-map, slice_get_read, slice_get_within}
use Rattle.brl_pairs.specs.Runs.{Behaviour}
use Rattle.brl_pairs.specs.Splits.{AreSplits}
use Rattle.brl_pairs.specs.declared.splits.Splits.{Splits}
use Rattle.brl_pairs.specs.declared.step.Step.{Step}
use Rattle.brl_closure.specs.Trail.{TakesStep}
use Rattle.brl_pairs.specs.declared.edge.Edge.{Edge}
use Rattle.brl_pairs.specs.declared.sorted.SortedEdge.{SortedEdge}
use Rattle.brl_pairs.proofs.Lists.{inside, length_push, push_cases, same_place}
use Rattle.brl_pairs.proofs.Numbered.{still_sorted}
use Rattle.brl_closure.specs.Edges.{AreKeptEdges}
use Rattle.brl_closure.specs.SearchView.{Stays}
use Rattle.brl_closure.proofs.Edges.{edges_more}
use Rattle.brl_divergence.specs.Expanded.{AreExpanded, AreStepsOf, AreTwoEdges, IsEdgeOf, rules_of_edges}
use Rattle.brl_divergence.specs.declared.expanded.Expanded.{Expanded}

-- a rule at a place is that of the edge there
pub rule_at : (edges : List Edge) (rules : List ℕ) → rules ≡ rules_of_edges edges → (place : ℕ) (e : Edge) (r : ℕ) → slice_get edges place ≡ Some e → slice_get rules place ≡ Some r → r ≡ e.rule
rule_at edges rules is place e r e_at r_at =
    let there : slice_get rules place ≡ option_map (λ (x : Edge). x.rule) (slice_get edges place) = ap (λ (l : List ℕ). slice_get l place) is ∙ slice_get-map (λ (x : Edge). x.rule) edges place in
    let same : option_map (λ (x : Edge). x.rule) (slice_get edges place) ≡ Some e.rule = ap (option_map (λ (x : Edge). x.rule)) e_at in
    cc

-- as many rules as edges
pub as_many : (edges : List Edge) (rules : List ℕ) → rules ≡ rules_of_edges edges → length rules ≡ length edges
as_many edges rules is = ap length is ∙ length-map edges (λ (x : Edge). x.rule)

module _ {S : Type 0} (m : Behaviour S) where
  -- where states are added and more cells are kept
  pub steps_more : (xs ys : List S) (old new : List (List ℕ)) → Stays xs ys → Stays old new → (number : ℕ) (sorted : List SortedEdge) (rules : List ℕ) → AreStepsOf m xs number old sorted rules → AreStepsOf m ys number new sorted rules
  steps_more xs ys old new states cells number sorted rules h = record {
    edges = h.edges;
    are_edges = edges_more m xs ys states number h.edges h.are_edges;
    sorted_of = still_sorted old new cells h.edges sorted h.sorted_of;
    rules_of = h.rules_of;
  }

  -- one state more is expanded
  pub one_expanded : (xs ys : List S) (e d : Expanded) (sorted : Vec SortedEdge) (rules : Vec ℕ) → Stays xs ys → Stays e.cells d.cells → d.edges.items ≡ e.edges.items ++ sorted ∷ [] → d.rules.items ≡ e.rules.items ++ rules ∷ []
      → AreStepsOf m ys (length e.edges.items) d.cells sorted.items rules.items → AreExpanded m xs e → AreExpanded m ys d
  one_expanded xs ys e d sorted rules states cells edges_is rules_is last h =
      let edges_more : length d.edges.items ≡ length e.edges.items + 1 = ap length edges_is ∙ length_push e.edges.items sorted in
      let rules_more : length d.rules.items ≡ length e.rules.items + 1 = ap length rules_is ∙ length_push e.rules.items rules in
      record {
        many = omega (arith, edges_more, rules_more, h.many);
        each = λ number s r s_at r_at.
            elim (push_cases e.edges.items sorted number s (ap (λ (l : List (Vec SortedEdge)). slice_get l number) (sym edges_is) ∙ s_at)) [
              | inl s_before ↦ elim (push_cases e.rules.items rules number r (ap (λ (l : List (Vec ℕ)). slice_get l number) (sym rules_is) ∙ r_at)) [
                | inl r_before ↦ steps_more xs ys e.cells d.cells states cells number s.items r.items (h.each number s r s_before r_before)
                | inr r_last ↦ (
                    let within : number < length e.edges.items = slice_get_within e.edges.items number s s_before in
                    let here : number ≡ length e.rules.items = r_last.0 in
                    absurd (omega (arith, within, here, h.many)))
              ]
              | inr s_last ↦ elim (push_cases e.rules.items rules number r (ap (λ (l : List (Vec ℕ)). slice_get l number) (sym rules_is) ∙ r_at)) [
                | inl r_before ↦ (
                    let within : number < length e.rules.items = slice_get_within e.rules.items number r r_before in
                    let here : number ≡ length e.edges.items = s_last.0 in
                    absurd (omega (arith, within, here, h.many)))
                | inr r_last ↦
                    subst (λ (n : ℕ). AreStepsOf m ys n d.cells s.items r.items) (sym s_last.0)
                    (subst (λ (v : Vec SortedEdge). AreStepsOf m ys (length e.edges.items) d.cells v.items r.items) s_last.1
                    (subst (λ (v : Vec ℕ). AreStepsOf m ys (length e.edges.items) d.cells sorted.items v.items) r_last.1 last))
              ]
            ];
      }

  module _ (states : List S) (e : Expanded) (h : AreExpanded m states e) where
    -- the rules of a state that is expanded
    pub rules_there : (number : ℕ) → number < length e.edges.items → (rules : Vec ℕ) × (slice_get e.rules.items number ≡ Some rules)
    rules_there number less = inside e.rules.items number (omega (arith, less, h.many))

    pub kept_edges : AreKeptEdges m states e.cells e.edges.items
    kept_edges number sorted at =
        let rules = rules_there number (slice_get_within e.edges.items number sorted at) in
        let steps = h.each number sorted rules.0 at rules.1 in
        record { edges = steps.edges; are_edges = steps.are_edges; sorted_of = steps.sorted_of }

    -- the place of an edge has a rule
    pub place_within : (number : ℕ) (x : SortedEdge) → IsEdgeOf e number x → (rules : Vec ℕ) → slice_get e.rules.items number ≡ Some rules → x.place < length rules.items
    place_within number x one rules rules_at =
        let steps = h.each number one.sorted rules one.at rules_at in
        let own = steps.sorted_of.by_numbers.only x one.one in
        let within : x.place < length steps.edges = slice_get_within steps.edges x.place own.edge own.at in
        omega (arith, within, as_many steps.edges rules.items steps.rules_of)

    -- two edges with their rules
    pub two_edges : (number : ℕ) (x y : SortedEdge) → IsEdgeOf e number x → IsEdgeOf e number y → x.place < y.place → (rules : Vec ℕ) → slice_get e.rules.items number ≡ Some rules
        → (r s : ℕ) → slice_get rules.items x.place ≡ Some r → slice_get rules.items y.place ≡ Some s → AreTwoEdges m states e.cells number x y (r, s)
    two_edges number x y one other less rules rules_at r s r_at s_at =
        let steps = h.each number one.sorted rules one.at rules_at in
        let same : other.sorted ≡ one.sorted = same_place e.edges.items number other.sorted one.sorted other.at one.at in
        let first = steps.sorted_of.by_numbers.only x one.one in
        let second = steps.sorted_of.by_numbers.only y (subst (λ (v : Vec SortedEdge). Contains v.items y) same other.one) in
        record {
          edges = steps.edges;
          are_edges = steps.are_edges;
          first = first;
          second = second;
          in_order = less;
          first_rule = rule_at steps.edges rules.items steps.rules_of x.place first.edge r first.at r_at;
          second_rule = rule_at steps.edges rules.items steps.rules_of y.place second.edge s second.at s_at;
        }

    -- the rules that are read for an edge
    pub rules_read : (number : ℕ) (x : SortedEdge) → IsEdgeOf e number x → (rules : Vec ℕ) → rules ≡ get_or e.rules.items number rules → slice_get e.rules.items number ≡ Some rules
    rules_read number x one rules is =
        let within : number < length e.edges.items = slice_get_within e.edges.items number one.sorted one.at in
        slice_get_read e.rules.items (length e.rules.items) number rules refl (omega (arith, within, h.many)) is

    -- the place of an edge is within the rules that are read for it
    pub read_within : (number : ℕ) (x : SortedEdge) → IsEdgeOf e number x → (rules : Vec ℕ) → rules ≡ get_or e.rules.items number rules → (read : List ℕ) → read ≡ rules.items → x.place < length read
    read_within number x one rules is read same = subst (λ (l : List ℕ). x.place < length l) (sym same) (place_within number x one rules (rules_read number x one rules is))

  module _ (states : List S) (number : ℕ) (cells : List (List ℕ)) (sorted : List SortedEdge) (rules : List ℕ) (h : AreStepsOf m states number cells sorted rules) where
    -- a place has an edge
    pub place_there : (place : ℕ) → place < length rules → (x : SortedEdge) × Contains sorted x × (x.place ≡ place)
    place_there place less =
        let e = inside h.edges place (omega (arith, less, as_many h.edges rules h.rules_of)) in
        h.sorted_of.by_numbers.all place e.0 e.1

    -- an edge has a place
    pub edge_within : (x : SortedEdge) → Contains sorted x → x.place < length rules
    edge_within x there =
        let own = h.sorted_of.by_numbers.only x there in
        let within : x.place < length h.edges = slice_get_within h.edges x.place own.edge own.at in
        omega (arith, within, as_many h.edges rules h.rules_of)

    -- so has a step
    pub step_within : (place : ℕ) (x : Step S) → TakesStep m states number place x → place < length rules
    step_within place x taken =
        let same = same_place states number taken.state h.are_edges.state taken.at h.are_edges.at in
        let here : slice_get (m.steps h.are_edges.state) place ≡ Some x = subst (λ (s : S). slice_get (m.steps s) place ≡ Some x) same taken.listed in
        let within : place < length (m.steps h.are_edges.state) = slice_get_within (m.steps h.are_edges.state) place x here in
        omega (arith, within, h.are_edges.listed.count, as_many h.edges rules h.rules_of)

-- the edge at the position of a place
pub own_edge : (cells : List (List ℕ)) (sorted : List SortedEdge) (splits : Splits) → AreSplits cells sorted splits → (place : ℕ) → (x : SortedEdge) × Contains sorted x × (x.place ≡ place) → (place < length splits.positions.items)
    × ((k : ℕ) → slice_get splits.positions.items place ≡ Some k → (y : SortedEdge) × (slice_get sorted k ≡ Some y) × (y.place ≡ place))
own_edge cells sorted splits h place x =
    let at = h.positions x.0 x.1 in
    let here : slice_get splits.positions.items place ≡ Some at.0 = ap (slice_get splits.positions.items) (sym x.2) ∙ at.2 in (
      slice_get_within splits.positions.items place at.0 here,
      λ k k_at. (
          let same : k ≡ at.0 = same_place splits.positions.items place k at.0 k_at here in
          (at.1, ap (slice_get sorted) same ∙ at.3, at.4 ∙ x.2)),
    )
