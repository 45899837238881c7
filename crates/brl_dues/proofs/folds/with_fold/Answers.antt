use Rattle.std.proofs.Common.{◌∙◌, ◌+◌, ap, arith, get_or, length, ltb, refl, rules}
use Rattle.std.proofs.lemmas.List.{get_or-drop, length-drop, take_rest}
use Rattle.std.proofs.lemmas.List.Sorted.{IsNonDecreasingBy-drop, IsNonDecreasingBy-take, IsPartitionPoint-from_clause, IsPartitionedBy-ltb}
use Rattle.brl_dues.specs.declared.folds.Place.{Place}
use Rattle.brl_dues.proofs.ByFold.{last-place, places-between}
use Rattle.brl_dues.proofs.folds.with_fold.Goals as goal

pub returns : goal.returns
returns c =
    let key = λ (place : Place). place.fold in
    let places = c.args.places.now in
    let i = c.partition_point.result in
    let first = IsPartitionPoint-from_clause (λ place. ltb place.fold c.args.fold) _ _ c.partition_point.ensures.partitioned (IsPartitionedBy-ltb key places c.args.fold c.requires) (λ a r q k. search rules) in
    let whole = take_rest places i in
    let size = ap length whole ∙ length-drop i places in
    let last = last-place c.args.fold _ c.count_of.result (IsNonDecreasingBy-take key _ _ (IsNonDecreasingBy-drop key i places c.requires))
    (λ k d lo lt. ap (λ (place : Place). ltb place.fold c.args.fold) (ap (λ l. get_or l k d) whole ∙ get_or-drop i places k d) ∙ first.1 (i + k) d (omega arith) (omega (arith, lt, size)))
    c.count_of.ensures.before c.count_of.ensures.other in
    places-between c.args.fold places _ i c.count_of.result refl c.count_of.ensures.bound first last
