-- What is missing by the first two edges of each kind is what is missing by all the edges.
use Rattle.std.proofs.Common.{◌≡◌, ℕ, ◌<◌, ◌≤◌, List, inl, inr, Option, Some, slice_get, refl, sym, ◌∙◌, ap, subst, arith}
use Rattle.std.proofs.lemmas.Bool.{cases_eq}
use Rattle.std.proofs.lemmas.Option.{slice_get_within}
use Rattle.brl_closure.specs.Alike.{AreFirstTwo, IsOfKind, kind_of}
use Rattle.brl_closure.specs.Least.{IsLeastFound, IsLeastPairFound}
use Rattle.brl_closure.specs.Steps.{HasOfRule, HasOfRules, MissUnexcused}
use Rattle.brl_closure.proofs.MissingLaws.{same_missing, same_split, unexcused_other_order}
use Rattle.brl_closure.proofs.LeastLaws.{AtOrBehind, at_or_behind, least_of_more, least_of_more_pair}
use Rattle.brl_pairs.specs.Body.{NumberPair}
use Rattle.brl_pairs.specs.Edges.{AreInOrder}
use Rattle.brl_pairs.specs.NumberPairs.{IsMissing}
use Rattle.brl_pairs.specs.declared.edge.Edge.{Edge}
use Rattle.brl_pairs.specs.declared.excused.Excused.{Excused}
use Rattle.brl_pairs.proofs.Lists.{either_way, same_place}

-- all edges are their first two of each kind, and maybe more
pub all_kept : (excused : Excused) (edges : List Edge) → AreFirstTwo excused edges edges
all_kept excused edges = record {
  origin = λ k. k;
  same = λ place x at. at;
  ascend = λ i j less within. less;
  each = λ place x at. inl (place, at, refl);
}

module _ (excused : Excused) (edges kept : List Edge) (h : AreFirstTwo excused edges kept) where
  -- ---- The laws of the edges

  pub kept_in_order : AreInOrder edges → AreInOrder kept
  kept_in_order in_order i j x y less x_at y_at = in_order (h.origin i) (h.origin j) x y (h.ascend i j less (slice_get_within kept j y y_at)) (h.same i x x_at) (h.same j y y_at)

  -- ---- A kept edge in place of an edge

  -- the kept edge at the place k has the kind of this edge, and it was not after it
  record StandsIn (place : ℕ) (x : Edge) (k : ℕ) : Type 0 where
    of_kind : IsOfKind excused kept (kind_of excused x) k
    not_after : h.origin k ≤ place

  itself : (place : ℕ) (x : Edge) (k : ℕ) → slice_get kept k ≡ Some x → h.origin k ≡ place → StandsIn place x k
  itself place x k at is = record { of_kind = record { edge = x; at = at; has_kind = refl }; not_after = omega (arith, is) }

  stand_in : (place : ℕ) (x : Edge) → slice_get edges place ≡ Some x → (k : ℕ) × StandsIn place x k
  stand_in place x at = elim (h.each place x at) [
    | inl is_kept ↦ (is_kept.0, itself place x is_kept.0 is_kept.1 is_kept.2)
    | inr found ↦ (
        let two = found.0 in
        let before : h.origin two.first < h.origin two.second = h.ascend two.first two.second two.in_order (slice_get_within kept two.second two.second_is.edge two.second_is.at) in
        (two.first, record { of_kind = two.first_is; not_after = omega (arith, before, found.1) }))
  ]

  -- another one than that at the place k, which was before this edge
  other_stand_in : (place : ℕ) (x : Edge) → slice_get edges place ≡ Some x → (k : ℕ) → h.origin k < place → (l : ℕ) × (k ≡ l → ⊥) × StandsIn place x l
  other_stand_in place x at k before = elim (h.each place x at) [
    | inl is_kept ↦ (is_kept.0, (λ same. absurd (omega (arith, before, is_kept.2, ap h.origin same))), itself place x is_kept.0 is_kept.1 is_kept.2)
    | inr found ↦ (
        let two = found.0 in
        let less : two.first < two.second = two.in_order in
        let in_order : h.origin two.first < h.origin two.second = h.ascend two.first two.second less (slice_get_within kept two.second two.second_is.edge two.second_is.at) in
        elim (cases_eq k two.first) [
          | inl here ↦ (two.second, (λ same. absurd (omega (arith, less, here, same))), record { of_kind = two.second_is; not_after = omega (arith, found.1) })
          | inr apart ↦ (two.first, apart, record { of_kind = two.first_is; not_after = omega (arith, in_order, found.1) })
        ])
  ]

  module _ (in_order : AreInOrder edges) where
    rule_not_above : (place : ℕ) (x : Edge) → slice_get edges place ≡ Some x → (k : ℕ) (s : StandsIn place x k) → s.of_kind.edge.rule ≤ x.rule
    rule_not_above place x at k s =
        let e = s.of_kind.edge in
        let e_at : slice_get edges (h.origin k) ≡ Some e = h.same k e s.of_kind.at in
        elim (cases_eq (h.origin k) place) [
          | inl here ↦ (
              let rules : e.rule ≡ x.rule = ap (λ (z : Edge). z.rule) (same_place edges place e x (ap (slice_get edges) (sym here) ∙ e_at) at) in
              omega (arith, rules))
          | inr there ↦ in_order (h.origin k) place e x (let le : h.origin k ≤ place = s.not_after in omega (arith, le, there)) e_at at
        ]

    -- ---- Follows

    module _ (pairs : List NumberPair) (ahead : ℕ) (lead : List ℕ) where
      move_within : (rule : ℕ) → HasOfRule (IsMissing pairs ahead lead) kept rule → HasOfRule (IsMissing pairs ahead lead) edges rule
      move_within rule f = record { place = h.origin f.place; edge = f.edge; at = h.same f.place f.edge f.at; has_rule = f.has_rule; has = f.has }

      lesser_move : (rule : ℕ) → HasOfRule (IsMissing pairs ahead lead) edges rule → (r : ℕ) × HasOfRule (IsMissing pairs ahead lead) kept r × (r ≤ rule)
      lesser_move rule f =
          let k = stand_in f.place f.edge f.at in
          let s = k.1 in
          let e = s.of_kind.edge in (
            e.rule,
            record { place = k.0; edge = e; at = s.of_kind.at; has_rule = refl; has = same_missing excused pairs ahead lead e f.edge s.of_kind.has_kind f.has },
            subst (λ (r : ℕ). e.rule ≤ r) f.has_rule (rule_not_above f.place f.edge f.at k.0 s),
          )

      pub move_of_kept : (found : Option ℕ) → IsLeastFound (HasOfRule (IsMissing pairs ahead lead) kept) found → IsLeastFound (HasOfRule (IsMissing pairs ahead lead) edges) found
      move_of_kept found least = least_of_more (HasOfRule (IsMissing pairs ahead lead) kept) (HasOfRule (IsMissing pairs ahead lead) edges) move_within lesser_move found least

    -- ---- Splits

    module _ (pairs : List NumberPair) where
      abbrev Missing : Edge → Edge → Type 0
      Missing = MissUnexcused excused pairs

      split_within : (l g : ℕ) → HasOfRules Missing kept l g → HasOfRules Missing edges l g
      split_within l g f = record {
        i = h.origin f.i;
        j = h.origin f.j;
        earlier = f.earlier;
        later = f.later;
        in_order = h.ascend f.i f.j f.in_order (slice_get_within kept f.j f.later f.later_at);
        earlier_at = h.same f.i f.earlier f.earlier_at;
        later_at = h.same f.j f.later f.later_at;
        has_first = f.has_first;
        has_second = f.has_second;
        has = f.has;
      }

      lesser_split : (l g : ℕ) → HasOfRules Missing edges l g → (p : ℕ × ℕ) × HasOfRules Missing kept p.0 p.1 × AtOrBehind p l g
      lesser_split l g f =
          let k = stand_in f.i f.earlier f.earlier_at in
          let s = k.1 in
          let j = other_stand_in f.j f.later f.later_at k.0 (let le : h.origin k.0 ≤ f.i = s.not_after in let lt : f.i < f.j = f.in_order in omega (arith, le, lt)) in
          let t = j.2 in
          let x = s.of_kind.edge in
          let y = t.of_kind.edge in
          let gap : Missing x y = same_split excused pairs x y f.earlier f.later s.of_kind.has_kind t.of_kind.has_kind f.has in
          let x_low : x.rule ≤ f.earlier.rule = rule_not_above f.i f.earlier f.earlier_at k.0 s in
          let y_low : y.rule ≤ f.later.rule = rule_not_above f.j f.later f.later_at j.0 t in
          let ascend : f.earlier.rule ≤ f.later.rule = in_order f.i f.j f.earlier f.later f.in_order f.earlier_at f.later_at in
          elim (either_way k.0 j.0 j.1) [
            | inl less ↦ (
              (x.rule, y.rule),
              record { i = k.0; j = j.0; earlier = x; later = y; in_order = less; earlier_at = s.of_kind.at; later_at = t.of_kind.at; has_first = refl; has_second = refl; has = gap },
              at_or_behind (x.rule, y.rule) l g (omega (arith, x_low, f.has_first)) (omega (arith, y_low, f.has_second)),
            )
            | inr more ↦ (
                let swapped : y.rule ≤ x.rule = kept_in_order in_order j.0 k.0 y x more t.of_kind.at s.of_kind.at in (
                  (y.rule, x.rule),
                  record { i = j.0; j = k.0; earlier = y; later = x; in_order = more; earlier_at = t.of_kind.at; later_at = s.of_kind.at; has_first = refl; has_second = refl; has = unexcused_other_order excused pairs x y gap },
                  at_or_behind (y.rule, x.rule) l g (omega (arith, swapped, x_low, f.has_first)) (omega (arith, x_low, ascend, f.has_second)),
                ))
          ]

      pub split_of_kept : (found : Option (ℕ × ℕ)) → IsLeastPairFound (HasOfRules Missing kept) found → IsLeastPairFound (HasOfRules Missing edges) found
      split_of_kept found least = least_of_more_pair (HasOfRules Missing kept) (HasOfRules Missing edges) split_within lesser_split found least
