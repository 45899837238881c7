use Rattle.std.proofs.Common.{rules}
use Rattle.std.proofs.lemmas.List.Sorted.{answers_always, IsNonDecreasingBy-from_sort_by_key}
use Rattle.brl_pairs.specs.declared.edge.ListedEdge.{ListedEdge}
use Rattle.brl_parts.proofs.Merging.{one_rule}
use Rattle.brl_parts.proofs.parts.sort_by_rule.Goals as goal

pub returns : goal.returns
returns c = record {
  ascending = IsNonDecreasingBy-from_sort_by_key (λ (e : ListedEdge). e.rule) _ c.in_ok-sort_by_key.ensures.sorted (λ a r q k. search rules);
  each = λ rule.
      one_rule _ _ (c.sort_by_key.ensures.stable (λ (e : ListedEdge). e.rule) (answers_always _ _ _ (λ f a r g h. search rules))) rule;
}
