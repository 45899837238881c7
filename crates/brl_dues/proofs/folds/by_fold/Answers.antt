use Rattle.std.proofs.Common.{rules, ap, ◌∙◌, filter}
use Rattle.std.proofs.lemmas.List.Sorted.{answers_always, IsNonDecreasingBy-from_sort_by_key}
use Rattle.brl_dues.specs.declared.folds.Place.{Place}
use Rattle.brl_dues.specs.ByFold.{has_fold}
use Rattle.brl_dues.proofs.ByFold.{one-fold}
use Rattle.brl_dues.proofs.folds.by_fold.Goals as goal

pub returns : goal.returns
returns c = record {
  rise = IsNonDecreasingBy-from_sort_by_key (λ (place : Place). place.fold) _ c.in_ok-sort_by_key.ensures.sorted (λ a r q k. search rules);
  each = λ fold.
      one-fold _ _ (c.sort_by_key.ensures.stable (λ (place : Place). place.fold) (answers_always _ _ _ (λ f a r g h. search rules))) fold
      ∙ ap (filter (has_fold fold)) c.in_ok-places.ensures;
}
