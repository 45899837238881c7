use Rattle.std.proofs.Common.{◌≡◌, ◌<◌, ℕ, length, ◌∙◌, ap, sym, arith, rules}
use Rattle.std.specs.Option.{option_map}
use Rattle.std.proofs.lemmas.Option.{get_or_from_slice_get}
use Rattle.brl_closure.proofs.LeastSplit.{split_all, split_step}
use Rattle.brl_pairs.proofs.Lists.{inside}
use Rattle.brl_closure.specs.Steps.{MissUnexcused}
use Rattle.brl_closure.proofs.check.missing.missing_of_all.Goals as goal

pub loop-second-preserved : goal.loop-second-preserved
loop-second-preserved c =
    let a = c.args in
    let n = c.loop-second.second in
    let within : n < length a.edges.now.edges = omega (arith, c.len-second-end.ensures) in
    let y = inside a.edges.now.edges n within in
    let paired : c.map.result ≡ option_map (λ (first : ℕ). (first, c.rule_at-rule.result)) c.in_ok-found.found = search rules in
    split_step (MissUnexcused a.excused.now a.pairs.now) a.edges.now.edges n y.0 within (sym (get_or_from_slice_get a.edges.now.edges n y.0 y.0 y.1))
    c.loop-second.best c.loop-second.invariant c.in_ok-found.found c.in_ok-found.ensures
    c.map.result (paired ∙ ap (λ (r : ℕ). option_map (λ (first : ℕ). (first, r)) c.in_ok-found.found) (c.rule_at-rule.ensures y.0 y.1)) c.lesser-best.result c.lesser-best.ensures

pub returns : goal.returns
returns c =
    split_all (MissUnexcused c.args.excused.now c.args.pairs.now) c.args.edges.now.edges c.loop-second.second (omega (arith, c.len-second-end.ensures)) c.loop-second.best c.loop-second.invariant
