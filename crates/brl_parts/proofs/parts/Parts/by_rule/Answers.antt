use Rattle.std.proofs.Common.{◌≡◌, ◌∙◌, ◌<◌, ℕ, List, Some, ap, map, slice_get, subst, sym}
use Rattle.std.proofs.lemmas.List.Elements.{All-get_or}
use Rattle.std.proofs.lemmas.Option.{get_or_from_slice_get, slice_get_within}
use Rattle.brl_pairs.specs.declared.edge.ListedEdge.{ListedEdge}
use Rattle.brl_pairs.specs.Grouped.{grouped}
use Rattle.brl_parts.specs.Parts.{AreByRule}
use Rattle.brl_parts.proofs.Merging.{grouped_by_rule, rule_at}
use Rattle.brl_parts.proofs.parts.Parts.by_rule.Goals as goal

pub returns : goal.returns
returns g c =
    let listed = c.in_ok-listed.listed.items in
    let rule : ListedEdge → ℕ = λ (e : ListedEdge). e.rule in
    let rules : c.in_ok-rules.rules.items ≡ map rule listed = c.in_ok-rules.ensures ∙ ap (map rule) c.as_slice.ensures.value in
    let same : c.as_slice-2.result.now ≡ map rule listed = c.as_slice-2.ensures.value ∙ rules in
    let below = (λ (k : ℕ) (e : ListedEdge) (at : slice_get listed k ≡ Some e).
    let there : slice_get c.as_slice-2.result.now k ≡ Some e.rule = ap (λ (l : List ℕ). slice_get l k) same ∙ rule_at listed k e at in
    let less = All-get_or (λ (n : ℕ). n < c.past_all-count.result) c.as_slice-2.result.now k 0 (slice_get_within c.as_slice-2.result.now k e.rule there) c.past_all-count.ensures in
    subst (λ (n : ℕ). n < c.past_all-count.result) (get_or_from_slice_get c.as_slice-2.result.now k e.rule 0 there) less) in
    let sorted : c.in_ok-sorted.sorted.items ≡ grouped rule c.past_all-count.result listed =
    c.in_ok-sorted.ensures rule (c.as_slice-4.ensures.value ∙ rules ∙ ap (map rule) (sym c.as_slice-3.ensures.value)) ∙ ap (grouped rule c.past_all-count.result) c.as_slice-3.ensures.value in
    subst (λ (l : List ListedEdge). AreByRule l c.in_ok-sorted.sorted.items) c.in_ok-listed.ensures (grouped_by_rule listed c.in_ok-sorted.sorted.items c.past_all-count.result below sorted)
