use Rattle.std.proofs.Common.{◌≡◌, ◌<◌, ℕ, Bool, Some, false, length, slice_get, ◌∙◌, ap, subst, arith}
use Rattle.std.proofs.lemmas.Option.{slice_get-get_or, slice_get_within}
use Rattle.std.proofs.lemmas.Result.{IfOk-weaker}
use Rattle.brl_pairs.proofs.Lists.{inside}
use Rattle.brl_pairs.proofs.Numbered.{contained}
use Rattle.brl_closure.specs.Least.{IsLeastPairFound}
use Rattle.brl_closure.specs.Steps.{HasOfPlace, MissUnexcused}
use Rattle.brl_closure.proofs.UnsharedSplits.{least_if_unshared}
use Rattle.brl_closure.proofs.check.missing.missing_unless_shared.Goals as goal

pub missing_split_at_place-requires : goal.missing_split_at_place-requires
missing_split_at_place-requires c =
    let edges = c.args.edges.now in
    let x = inside edges.sorted c.args.position c.requires.within in
    let own = c.law.ensures.by_numbers.only x.0 (contained edges.sorted c.args.position x.0 x.1) in
    let within = slice_get_within edges.edges x.0.place own.edge own.at in
    omega (arith, within, c.place_at.ensures x.0 x.1)

pub returns : goal.returns
returns c =
    let a = c.args in
    let x = inside a.edges.now.sorted a.position c.requires.within in
    let Missing = MissUnexcused a.excused.now a.pairs.now in
    let within : a.position < length a.shared.now = omega (arith, c.requires.count, c.requires.within) in
    let unshared : slice_get a.shared.now a.position ≡ Some false = slice_get-get_or a.shared.now a.position false within ∙ ap (λ (b : Bool). Some b) c.if-shared-position.false in
    IfOk-weaker c.missing_split_at_place.result _ _
    (λ found least. least_if_unshared Missing a.edges.now a.shared.now a.position unshared x.0 x.1 found
    (subst (λ (place : ℕ). IsLeastPairFound (HasOfPlace Missing a.edges.now.edges place) found) (c.place_at.ensures x.0 x.1) least))
    c.missing_split_at_place.ensures
