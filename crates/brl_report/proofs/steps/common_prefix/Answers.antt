use Rattle.std.proofs.Common.{rules}
use Rattle.brl_report.proofs.Common.{no-more-right}
use Rattle.brl_report.proofs.steps.common_prefix.Goals as goal

pub returns-else-count-right : goal.returns-else-count-right
returns-else-count-right c = search (rules, no-more-right)
