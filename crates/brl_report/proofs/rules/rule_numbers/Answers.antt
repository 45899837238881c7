use Rattle.std.proofs.Common.{arith, refl}
use Rattle.std.proofs.lemmas.Iterator.{YieldsList-from_range, items_from_collect}
use Rattle.brl_report.specs.Rules.{rule_count}
use Rattle.brl_report.proofs.rules.rule_numbers.Goals as goal

pub returns : goal.returns
returns c =
    items_from_collect c.collect.result c.collect.ensures.ran (YieldsList-from_range 0 c.rule_count.result (rule_count c.args.table.now) refl (omega (arith, c.rule_count.ensures)))
