use Rattle.std.proofs.Common.{All, List, subst}
use Rattle.brl_states.specs.declared.due.Due.{Due}
use Rattle.brl_cert.specs.Valid.{IsDue}
use Rattle.brl_cert.proofs.dues_line.push_word.Goals as goal

pub returns-clause-in_range : goal.returns-clause-in_range
returns-clause-in_range c = record {
  before = c.in_ok-push_context.ensures.in_range;
  each = subst (λ (dues : List Due). All IsDue dues) c.as_slice.ensures.dues c.in_ok-push_each_due.ensures.in_range;
  kept = c.as_slice.ensures.kept;
}
