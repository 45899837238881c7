use Rattle.std.proofs.Common.{append_assoc, rules}
use Rattle.brl_report.proofs.row.Row.push_line.Goals as goal

pub returns : goal.returns
returns c = search (rules, append_assoc)
