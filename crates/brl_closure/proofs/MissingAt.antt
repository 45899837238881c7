-- What is missing at the state or the pair with a number is what is missing by its edges.
use Rattle.std.proofs.Common.{◌≡◌, ℕ, ◌<◌, ◌≤◌, min, max, Bool, List, [], ◌++◌, inl, inr, length, get_or, Option, Some, IsTrue, ◌↔◌, slice_get, refl, sym, ◌∙◌, ap, ap₂, subst, arith}
use Rattle.brl_closure.specs.Least.{IsLeast, IsLeastFound, IsLeastPairFound}
use Rattle.brl_closure.specs.Listing.{IsFirstMissing}
use Rattle.brl_closure.specs.Refusals.{HasTwoEnds, MissesPair, MissesState}
use Rattle.brl_closure.specs.Excusing.{MissesUnexcused}
use Rattle.brl_closure.specs.Steps.{HasOfRule, HasOfRules, MissUnexcused}
use Rattle.brl_pairs.specs.Members.{HaveOneNumber}
use Rattle.brl_closure.proofs.LeastLaws.{same_least, same_least_pair}
use Rattle.brl_closure.proofs.MissingLaws.{excused_back, unexcused_other_order}
use Rattle.brl_closure.proofs.Numbers.{at_named, edge_of, has_pair, is_there, names_at, runs, step_of}
use Rattle.brl_pairs.specs.Body.{BodyView, IsPairOf, NumberPair}
use Rattle.brl_pairs.specs.Sets.{pair_at}
use Rattle.brl_pairs.specs.Divergence.{has_rules}
use Rattle.brl_pairs.specs.Edges.{AreEdges, AreInOrder, IsEdge}
use Rattle.brl_pairs.specs.Excused.{AreExcusedEdges}
use Rattle.brl_pairs.specs.Exchanges.{AreExcused}
use Rattle.brl_pairs.specs.NumberPairs.{IsMissing, IsThere}
use Rattle.brl_pairs.specs.declared.edge.Edge.{Edge}
use Rattle.brl_pairs.specs.declared.excused.Excused.{Excused}
use Rattle.brl_pairs.specs.Runs.{Behaviour, IsInOrder, IsListedAt}
use Rattle.brl_pairs.specs.declared.step.Pair.{Pair}
use Rattle.brl_pairs.specs.declared.step.Step.{Step}
use Rattle.brl_pairs.proofs.Lists.{either_way, inside, read_at, same_place, three_ways}

one_value : {X : Type 0} (o : Option X) (x y : X) → o ≡ Some x → o ≡ Some y → x ≡ y
one_value o x y a b = cc

in_order_of : (a b : ℕ) → a ≤ b → (min a b ≡ a) × (max a b ≡ b)
in_order_of a b le = (grind arith, grind arith)

exchanged : (a b : ℕ) → (min a b ≡ min b a) × (max a b ≡ max b a)
exchanged a b = (grind arith, grind arith)

module _ {S : Type 0} where
  module _ (m : Behaviour S) (body : BodyView S) where
    -- ---- Steps

    -- the rule of the first step that leads to a missing state is the least
    pub step_least : (k : ℕ) (s : S) → slice_get body.states k ≡ Some s → IsInOrder (m.steps s) → (rule : ℕ) → IsFirstMissing body.states (m.steps s) rule → IsLeast (MissesState m body k) rule
    step_least k s at in_order rule first = record {
      has = record { state = s; is_state = at; step = first.step; listed = (first.place, first.at); has_rule = first.has_rule; missing = first.missing };
      below_all = λ other gap.
          let same : gap.state ≡ s = same_place body.states k gap.state s gap.is_state at in
          let y_at : IsListedAt (m.steps s) gap.listed.0 gap.step = subst (λ (z : S). IsListedAt (m.steps z) gap.listed.0 gap.step) same gap.listed.1 in
          let own : first.step.rule ≡ rule = first.has_rule in
          subst (λ (r : ℕ). rule ≤ r) gap.has_rule (elim (three_ways gap.listed.0 first.place) [
            | inl lt ↦ absurd (gap.missing (first.before gap.listed.0 gap.step lt y_at))
            | inr more ↦ elim more [
              | inl is ↦ (
                  let one : gap.step ≡ first.step = same_place (m.steps s) first.place gap.step first.step (ap (slice_get (m.steps s)) (sym is) ∙ y_at) first.at in
                  let rules : gap.step.rule ≡ first.step.rule = ap (λ (z : Step S). z.rule) one in
                  omega (arith, own, rules))
              | inr gt ↦ (let le : first.step.rule ≤ gap.step.rule = (in_order first.place gap.listed.0 first.step gap.step gt first.at y_at).ascend in omega (arith, own, le))
            ]
          ]);
    }

    -- the next states of a state with edges are there
    pub no_state_missing : (k : ℕ) (edges : List Edge) → AreEdges m body.states k edges → (rule : ℕ) → MissesState m body k rule → ⊥
    no_state_missing k edges h rule gap =
        let x = edge_of m body.states k edges h gap.state gap.is_state gap.listed.0 gap.step gap.listed.1 in
        gap.missing (x.edge.next, x.is_edge.next)

    -- ---- Follows

    module _ (one : HaveOneNumber body.states) (k : ℕ) (q : NumberPair) (q_at : slice_get body.pairs k ≡ Some q) (edges : List Edge) (h : AreEdges m body.states q.behind edges) where
      -- an edge that misses a pair is a step that misses a pair
      to_move : (a : S) → slice_get body.states q.ahead ≡ Some a → (rule : ℕ) → HasOfRule (IsMissing body.pairs q.ahead q.lead) edges rule → MissesPair m body k rule
      to_move a a_at rule f =
          let x = step_of m body.states q.behind edges h f.place f.edge f.at in
          let at : pair_at body k ≡ Some (runs a h.state q.lead) = at_named body k q (runs a h.state q.lead) q_at (record { ahead = a_at; behind = h.at; lead = refl }) in
          elim f.has [
            | inl gap ↦ record {
              pair = runs a h.state q.lead;
              is_pair = at;
              next = runs a x.step.next gap.rest;
              moves = record {
                step = x.step;
                listed = (f.place, x.at);
                moved = inl (record { ahead = refl; behind = refl; lead = gap.longer ∙ ap (λ (z : List ℕ). z ++ gap.rest) x.is_edge.cells });
              };
              has_rule = sym x.is_edge.rule ∙ f.has_rule;
              missing = λ there. gap.missing (is_there body one q.ahead f.edge.next gap.rest (runs a x.step.next gap.rest) a_at x.is_edge.next refl there);
            }
            | inr gap ↦ record {
              pair = runs a h.state q.lead;
              is_pair = at;
              next = runs x.step.next a gap.rest;
              moves = record {
                step = x.step;
                listed = (f.place, x.at);
                moved = inr (record { ahead = refl; behind = refl; some = gap.some; lead = sym x.is_edge.cells ∙ gap.shorter });
              };
              has_rule = sym x.is_edge.rule ∙ f.has_rule;
              missing = λ there. gap.missing (is_there body one f.edge.next q.ahead gap.rest (runs x.step.next a gap.rest) x.is_edge.next a_at refl there);
            }
          ]

      -- and the other way round
      from_move : (rule : ℕ) → MissesPair m body k rule → HasOfRule (IsMissing body.pairs q.ahead q.lead) edges rule
      from_move rule l =
          let names = names_at body k q l.pair q_at l.is_pair in
          let x = edge_of m body.states q.behind edges h l.pair.behind names.behind l.moves.listed.0 l.moves.step l.moves.listed.1 in
          record {
            place = l.moves.listed.0;
            edge = x.edge;
            at = x.at;
            has_rule = x.is_edge.rule ∙ l.has_rule;
            has = elim l.moves.moved [
              | inl stays ↦ inl (record {
                rest = l.next.lead;
                longer = names.lead ∙ stays.lead ∙ ap (λ (z : List ℕ). z ++ l.next.lead) (sym x.is_edge.cells);
                missing = λ there. l.missing (has_pair body q.ahead x.edge.next l.next.lead l.next (names.ahead ∙ ap (λ (z : S). Some z) (sym stays.ahead)) (x.is_edge.next ∙ ap (λ (z : S). Some z) (sym stays.behind)) refl there);
              })
              | inr gets ↦ inr (record {
                rest = l.next.lead;
                some = gets.some;
                shorter = x.is_edge.cells ∙ gets.lead ∙ ap (λ (z : List ℕ). z ++ l.next.lead) (sym names.lead);
                missing = λ there. l.missing (has_pair body x.edge.next q.ahead l.next.lead l.next (x.is_edge.next ∙ ap (λ (z : S). Some z) (sym gets.ahead)) (names.ahead ∙ ap (λ (z : S). Some z) (sym gets.behind)) refl there);
              })
            ];
          }

      pub move_at : IsPairOf (length body.states) q → (found : Option ℕ) → IsLeastFound (HasOfRule (IsMissing body.pairs q.ahead q.lead) edges) found → IsLeastFound (MissesPair m body k) found
      move_at range found least =
          let a = inside body.states q.ahead range.ahead in
          same_least (HasOfRule (IsMissing body.pairs q.ahead q.lead) edges) (MissesPair m body k) (λ rule. (to_move a.0 a.1 rule, from_move rule)) found least

    -- ---- Splits

    module _ (one : HaveOneNumber body.states) (excused : Excused) where
      -- two steps are excused just where their edges are
      edges_excused : (x y : Step S) (e f : Edge) → IsEdge body.states x e → IsEdge body.states y f → AreExcused excused.exchanged excused.accepted x y → AreExcusedEdges excused.exchanged excused.accepted e f
      edges_excused x y e f x_is y_is (inl have) = inl (ap₂ (has_rules excused.accepted) x_is.rule y_is.rule ∙ have)
      edges_excused x y e f x_is y_is (inr exchange) = inr (record {
        rules = ap₂ (has_rules excused.exchanged) x_is.rule y_is.rule ∙ exchange.rules;
        cells = x_is.cells ∙ exchange.cells ∙ sym y_is.cells;
        next = one e.next f.next x.next x_is.next (y_is.next ∙ ap (λ (z : S). Some z) (sym exchange.next));
      })

      steps_excused : (x y : Step S) (e f : Edge) → IsEdge body.states x e → IsEdge body.states y f → AreExcusedEdges excused.exchanged excused.accepted e f → AreExcused excused.exchanged excused.accepted x y
      steps_excused x y e f x_is y_is (inl have) = inl (sym (ap₂ (has_rules excused.accepted) x_is.rule y_is.rule) ∙ have)
      steps_excused x y e f x_is y_is (inr exchange) = inr (record {
        rules = sym (ap₂ (has_rules excused.exchanged) x_is.rule y_is.rule) ∙ exchange.rules;
        cells = sym x_is.cells ∙ exchange.cells ∙ y_is.cells;
        next = one_value (slice_get body.states f.next) x.next y.next (ap (slice_get body.states) (sym exchange.next) ∙ x_is.next) y_is.next;
      })

      module _ (k : ℕ) (edges : List Edge) (h : AreEdges m body.states k edges) (in_order : AreInOrder edges) where
        abbrev Missing : Edge → Edge → Type 0
        Missing = MissUnexcused excused body.pairs

        -- of two edges, one gives the cells of the other and more, and they lead to a missing pair:
        -- their steps miss a split
        of_longer : (i j : ℕ) (e f : Edge) → (i ≡ j → ⊥) → slice_get edges i ≡ Some e → slice_get edges j ≡ Some f → (l g : ℕ) → min e.rule f.rule ≡ l → max e.rule f.rule ≡ g
            → (rest : List ℕ) → e.cells ≡ f.cells ++ rest → (IsThere body.pairs e.next f.next rest → ⊥) → (AreExcusedEdges excused.exchanged excused.accepted e f → ⊥) → MissesUnexcused m excused body k l g
        of_longer i j e f differ e_at f_at l g lesser greater rest longer missing unexcused =
            let x = step_of m body.states k edges h i e e_at in
            let y = step_of m body.states k edges h j f f_at in
            record {
              misses = record {
                state = h.state;
                is_state = h.at;
                pair = runs x.step.next y.step.next rest;
                split = record {
                  i = i;
                  j = j;
                  longer = x.step;
                  shorter = y.step;
                  differ = differ;
                  longer_listed = x.at;
                  shorter_listed = y.at;
                  ahead = refl;
                  behind = refl;
                  lead = sym x.is_edge.cells ∙ longer ∙ ap (λ (z : List ℕ). z ++ rest) y.is_edge.cells;
                };
                has_lesser = rw (← x.is_edge.rule, ← y.is_edge.rule) lesser;
                has_greater = rw (← x.is_edge.rule, ← y.is_edge.rule) greater;
                missing = λ there. missing (is_there body one e.next f.next rest (runs x.step.next y.step.next rest) x.is_edge.next y.is_edge.next refl there);
              };
              unexcused = λ excused. unexcused (edges_excused x.step y.step e f x.is_edge y.is_edge excused);
            }

        -- two edges that miss a pair are two steps that miss a split
        to_split : (l g : ℕ) → HasOfRules Missing edges l g → MissesUnexcused m excused body k l g
        to_split l g f =
            let x = f.earlier in
            let y = f.later in
            let less : f.i < f.j = f.in_order in
            let rules = in_order_of x.rule y.rule (in_order f.i f.j x y less f.earlier_at f.later_at) in
            let lesser : min x.rule y.rule ≡ l = rules.0 ∙ f.has_first in
            let greater : max x.rule y.rule ≡ g = rules.1 ∙ f.has_second in
            elim f.has.0 [
              | inl gap ↦ of_longer f.i f.j x y (λ e. absurd (omega (arith, less, e))) f.earlier_at f.later_at l g lesser greater gap.rest gap.longer gap.missing f.has.1
              | inr gap ↦
                  let other = exchanged y.rule x.rule in
                  of_longer f.j f.i y x (λ e. absurd (omega (arith, less, e))) f.later_at f.earlier_at l g (other.0 ∙ lesser) (other.1 ∙ greater) gap.rest gap.shorter gap.missing
                  (λ excused_too. f.has.1 (excused_back excused y x excused_too))
            ]

        -- an earlier edge and a later one that miss a pair, by the rules of both
        by_rules : (i j : ℕ) (e f : Edge) → i < j → slice_get edges i ≡ Some e → slice_get edges j ≡ Some f → (l g : ℕ) → min e.rule f.rule ≡ l → max e.rule f.rule ≡ g → Missing e f → HasOfRules Missing edges l g
        by_rules i j e f less e_at f_at l g lesser greater gap =
            let rules = in_order_of e.rule f.rule (in_order i j e f less e_at f_at) in
            record {
              i = i;
              j = j;
              earlier = e;
              later = f;
              in_order = less;
              earlier_at = e_at;
              later_at = f_at;
              has_first = sym rules.0 ∙ lesser;
              has_second = sym rules.1 ∙ greater;
              has = gap;
            }

        -- and the other way round
        from_split : (l g : ℕ) → MissesUnexcused m excused body k l g → HasOfRules Missing edges l g
        from_split l g f =
            let split = f.misses.split in
            let state = f.misses.state in
            let pair = f.misses.pair in
            let x = edge_of m body.states k edges h state f.misses.is_state split.i split.longer split.longer_listed in
            let y = edge_of m body.states k edges h state f.misses.is_state split.j split.shorter split.shorter_listed in
            let ahead : slice_get body.states x.edge.next ≡ Some pair.ahead = x.is_edge.next ∙ ap (λ (z : S). Some z) (sym split.ahead) in
            let behind : slice_get body.states y.edge.next ≡ Some pair.behind = y.is_edge.next ∙ ap (λ (z : S). Some z) (sym split.behind) in
            let cells : x.edge.cells ≡ y.edge.cells ++ pair.lead = x.is_edge.cells ∙ split.lead ∙ ap (λ (z : List ℕ). z ++ pair.lead) (sym y.is_edge.cells) in
            let gap : Missing x.edge y.edge = (
              inl (record {
                rest = pair.lead;
                longer = cells;
                missing = λ there. f.misses.missing (has_pair body x.edge.next y.edge.next pair.lead pair ahead behind refl there);
              }),
              λ excused_too. f.unexcused (steps_excused split.longer split.shorter x.edge y.edge x.is_edge y.is_edge excused_too),
            ) in
            let lesser : min x.edge.rule y.edge.rule ≡ l = rw (x.is_edge.rule, y.is_edge.rule) f.misses.has_lesser in
            let greater : max x.edge.rule y.edge.rule ≡ g = rw (x.is_edge.rule, y.is_edge.rule) f.misses.has_greater in
            elim (either_way split.i split.j split.differ) [
              | inl less ↦ by_rules split.i split.j x.edge y.edge less x.at y.at l g lesser greater gap
              | inr more ↦
                  let other = exchanged y.edge.rule x.edge.rule in
                  by_rules split.j split.i y.edge x.edge more y.at x.at l g (other.0 ∙ lesser) (other.1 ∙ greater) (unexcused_other_order excused body.pairs x.edge y.edge gap)
            ]

        pub split_at : (found : Option (ℕ × ℕ)) → IsLeastPairFound (HasOfRules Missing edges) found → IsLeastPairFound (MissesUnexcused m excused body k) found
        split_at found least = same_least_pair (HasOfRules Missing edges) (MissesUnexcused m excused body k) (λ l g. (to_split l g, from_split l g)) found least

    -- ---- Ends

    pub ends_at : (k : ℕ) (p : Pair S) → pair_at body k ≡ Some p → (both : Bool) → IsTrue both ↔ ((p.lead ≡ []) × IsTrue (m.ends p.ahead) × IsTrue (m.ends p.behind)) → IsTrue both ↔ HasTwoEnds m body k
    ends_at k p at both tells = (
      (λ h. (let t = tells.0 h in record { pair = p; is_pair = at; no_lead = t.0; ahead = t.1; behind = t.2 })),
      λ h. (
          let same : h.pair ≡ p = one_value (pair_at body k) h.pair p h.is_pair at in
          tells.1 (subst (λ (z : Pair S). (z.lead ≡ []) × IsTrue (m.ends z.ahead) × IsTrue (m.ends z.behind)) same (h.no_lead, h.ahead, h.behind))
          ),
    )

  -- the pair of these states has this number
  pub pair_read : (body : BodyView S) (k : ℕ) → k < length body.pairs → (pairs : List NumberPair) → pairs ≡ body.pairs → (states : List S) → states ≡ body.states → (pair : NumberPair) → pair ≡ get_or pairs k pair
      → (a b : S) → slice_get states pair.ahead ≡ Some a → slice_get states pair.behind ≡ Some b → (lead : List ℕ) → lead ≡ pair.lead → pair_at body k ≡ Some (runs a b lead)
  pair_read body k lt pairs same states same' pair is a b at_a at_b lead lead_is =
      let at = read_at pairs body.pairs k pair same (omega (arith, lt, ap length same)) is in
      let ahead : slice_get body.states pair.ahead ≡ Some a = subst (λ (z : List S). slice_get z pair.ahead ≡ Some a) same' at_a in
      let behind : slice_get body.states pair.behind ≡ Some b = subst (λ (z : List S). slice_get z pair.behind ≡ Some b) same' at_b in
      rw at (rw ahead (rw behind (ap (λ (z : List ℕ). Some (runs a b z)) (sym lead_is))))
