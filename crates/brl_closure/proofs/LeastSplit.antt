-- The least rules of two edges that have a property together.
use Rattle.std.proofs.Common.{◌≡◌, ℕ, ◌+◌, ◌<◌, ◌≤◌, List, ◌⊎◌, inl, inr, length, get_or, Option, Some, slice_get, ◌↔◌, refl, sym, ◌∙◌, ap, subst, arith}
use Rattle.std.specs.Option.{option_map}
use Rattle.std.proofs.lemmas.Bool.{cases_eq}
use Rattle.std.proofs.lemmas.Option.{slice_get_within, slice_get_read}
use Rattle.brl_closure.proofs.LeastLaws.{least_of_both, same_least_pair, with_second}
use Rattle.brl_closure.specs.Least.{IsLeastFound, IsLeastPairFound, lesser_of}
use Rattle.brl_closure.specs.Steps.{HasBefore, HasOfRules}
use Rattle.brl_pairs.specs.declared.edge.Edge.{Edge}
use Rattle.brl_pairs.proofs.Lists.{same_place}

module _ (Has : Edge → Edge → Type 0) (edges : List Edge) where
  -- two edges of these rules have the property, and the later one is before this place
  pub record HasBelow (n first second : ℕ) : Type 0 where
    pub both : HasOfRules Has edges first second
    pub late : both.j < n

  -- one place more: those before it, and those whose later edge is there
  one_place : (n : ℕ) (y : Edge) → slice_get edges n ≡ Some y → (first second : ℕ)
      → (HasBelow n first second ⊎ (HasBefore (λ x. Has x y) edges n first × (second ≡ y.rule))) ↔ HasBelow (n + 1) first second
  one_place n y at first second = (to, from)
    where
      to : HasBelow n first second ⊎ (HasBefore (λ x. Has x y) edges n first × (second ≡ y.rule)) → HasBelow (n + 1) first second
      to h = elim h [
        | inl below ↦ record { both = below.both; late = (let lt : below.both.j < n = below.late in omega arith) }
        | inr here ↦ record {
          both = record {
            i = here.0.found.place;
            j = n;
            earlier = here.0.found.edge;
            later = y;
            in_order = here.0.before;
            earlier_at = here.0.found.at;
            later_at = at;
            has_first = here.0.found.has_rule;
            has_second = sym here.1;
            has = here.0.found.has;
          };
          late = omega arith;
        }
      ]

      from : HasBelow (n + 1) first second → HasBelow n first second ⊎ (HasBefore (λ x. Has x y) edges n first × (second ≡ y.rule))
      from h =
          let b = h.both in
          let lt : b.j < n + 1 = h.late in
          elim (cases_eq b.j n) [
            | inr there ↦ inl (record { both = b; late = omega arith })
            | inl here ↦
                let same : b.later ≡ y = same_place edges n b.later y (ap (slice_get edges) (sym here) ∙ b.later_at) at in
                let less : b.i < b.j = b.in_order in
                inr (
                  record {
                    found = record { place = b.i; edge = b.earlier; at = b.earlier_at; has_rule = b.has_first; has = subst (Has b.earlier) same b.has };
                    before = omega (arith, less, here);
                  },
                  sym b.has_second ∙ ap (λ (z : Edge). z.rule) same,
                )
          ]

  -- a step of the loop
  pub split_step : (n : ℕ) (y : Edge) → n < length edges → y ≡ get_or edges n y → (best : Option (ℕ × ℕ)) → IsLeastPairFound (HasBelow n) best
      → (found : Option ℕ) → ((z : Edge) → slice_get edges n ≡ Some z → IsLeastFound (HasBefore (λ x. Has x z) edges n) found)
      → (other : Option (ℕ × ℕ)) → other ≡ option_map (λ first. (first, y.rule)) found
      → (r : Option (ℕ × ℕ)) → r ≡ lesser_of best other → IsLeastPairFound (HasBelow (n + 1)) r
  split_step n y lt is best below found least other other_is r r_is =
      let at : slice_get edges n ≡ Some y = slice_get_read edges (length edges) n y refl lt is in
      let here = with_second (HasBefore (λ x. Has x y) edges n) y.rule found (least y at) in
      let both = least_of_both (HasBelow n) (λ f s. HasBefore (λ x. Has x y) edges n f × (s ≡ y.rule)) best (option_map (λ first. (first, y.rule)) found) below here in
      subst (IsLeastPairFound (HasBelow (n + 1))) (sym (r_is ∙ ap (lesser_of best) other_is))
      (same_least_pair _ (HasBelow (n + 1)) (one_place n y at) (lesser_of best (option_map (λ first. (first, y.rule)) found)) both)

  -- all later edges were tried
  pub split_all : (n : ℕ) → length edges ≤ n → (best : Option (ℕ × ℕ)) → IsLeastPairFound (HasBelow n) best → IsLeastPairFound (HasOfRules Has edges) best
  split_all n all best below =
      same_least_pair (HasBelow n) (HasOfRules Has edges) (λ f s. (
        (λ h. h.both),
        λ b. record { both = b; late = (let lt : b.j < length edges = slice_get_within edges b.j b.later b.later_at in omega arith) },
      )) best below
