use Rattle.std.proofs.Common.{◌∙◌, ap, sym, length}
use Rattle.std.specs.Prelude.{slice_get}
use Rattle.brl_window.proofs.Kept.{longest-first}
use Rattle.brl_window.proofs.steps.longest_rule.Goals as goal

pub returns-in-Some-clause-longest : goal.returns-in-Some-clause-longest
returns-in-Some-clause-longest c =
    let t = c.args.table.now in
    c.len.ensures
    ∙ longest-first t.characters (length t.files) t.rules c.in-Some.rule.now (c.rank_law.ensures.longer_first t.rules c.law.ensures.in_rank) c.law.ensures.parts.rules
    (ap (λ rules. slice_get rules 0) (sym c.rules_in_rank.ensures.rules) ∙ sym c.in-Some.ensures.value)
