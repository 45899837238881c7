use Rattle.std.proofs.Common.{◌<◌, ℕ, Some, sym, subst, arith}
use Rattle.brl_pairs.proofs.Lists.{inside}
use Rattle.brl_closure.specs.Least.{IsLeastPair}
use Rattle.brl_closure.specs.Steps.{HasOfPlaces, MissUnexcused}
use Rattle.brl_closure.proofs.LeastRule.{refuted}
use Rattle.brl_closure.proofs.MissingLaws.{unexcused_other_order}
use Rattle.brl_closure.proofs.UnsharedSplits.{least_of_two, least_swapped, none_of_two}
use Rattle.brl_closure.proofs.check.missing.missing_split_of.Goals as goal

pub returns-then-not-branch : goal.returns-then-not-branch
returns-then-not-branch c =
    let a = c.args in
    let f = inside a.edges.now.edges a.other c.requires.within in
    none_of_two a.excused.now a.pairs.now a.edges.now.edges a.place a.other a.edge.now f.0 c.requires.edge f.1
    (refuted c.in_ok-is_missing_split.field-0 (c.in_ok-is_missing_split.ensures f.0 f.1) c.if-not-branch.true)

pub returns-then-other-place : goal.returns-then-other-place
returns-then-other-place c =
    let a = c.args in
    let f = inside a.edges.now.edges a.other c.requires.within in
    let Missing = MissUnexcused a.excused.now a.pairs.now in
    let has = (c.in_ok-is_missing_split.ensures f.0 f.1).0 c.if-not-branch.false in
    subst (λ (rule : ℕ). IsLeastPair (HasOfPlaces Missing a.edges.now.edges a.place a.other) (rule, a.edge.now.rule)) (sym (c.rule_at-rule.ensures f.0 f.1))
    (least_swapped Missing a.edges.now.edges a.other a.place (Some (f.0.rule, a.edge.now.rule)) (least_of_two Missing a.edges.now.edges a.other a.place f.0 a.edge.now c.if-other-place.true f.1 c.requires.edge has))

pub returns-else-other-place : goal.returns-else-other-place
returns-else-other-place c =
    let a = c.args in
    let f = inside a.edges.now.edges a.other c.requires.within in
    let Missing = MissUnexcused a.excused.now a.pairs.now in
    let has = unexcused_other_order a.excused.now a.pairs.now f.0 a.edge.now ((c.in_ok-is_missing_split.ensures f.0 f.1).0 c.if-not-branch.false) in
    let less : a.place < a.other = omega (arith, c.if-place-other.false, c.if-other-place.false) in
    subst (λ (rule : ℕ). IsLeastPair (HasOfPlaces Missing a.edges.now.edges a.place a.other) (a.edge.now.rule, rule)) (sym (c.rule_at-rule.ensures f.0 f.1))
    (least_of_two Missing a.edges.now.edges a.place a.other a.edge.now f.0 less c.requires.edge f.1 has)
