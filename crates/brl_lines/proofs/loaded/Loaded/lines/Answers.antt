use Rattle.brl_lines.proofs.SpanLemmas.{lines_at-in_order}
use Rattle.brl_lines.proofs.loaded.Loaded.lines.Goals as goal

pub returns-in_err-line-clause-in_order : goal.returns-in_err-line-clause-in_order
returns-in_err-line-clause-in_order c = rw (← c.self.view_is) (lines_at-in_order c.self.inside.files.entries c.self.inside.spans.items)

pub returns-in_err-push-clause-in_order : goal.returns-in_err-push-clause-in_order
returns-in_err-push-clause-in_order c = rw (← c.self.view_is) (lines_at-in_order c.self.inside.files.entries c.self.inside.spans.items)

pub returns-clause-in_order : goal.returns-clause-in_order
returns-clause-in_order c = rw (← c.self.view_is) (lines_at-in_order c.self.inside.files.entries c.self.inside.spans.items)
