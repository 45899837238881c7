use Rattle.std.proofs.Common.{subst, sym}
use Rattle.brl_dues.specs.Contexts.{AreOfBoth}
use Rattle.brl_dues.proofs.BecomeSame.{only-one}
use Rattle.brl_dues.proofs.Meeting.{are-of-both, met-alone, of-both, one-base, settled, step-free}
use Rattle.brl_dues.proofs.OfBase.{from-base, into-base, steps-past}
use Rattle.brl_dues.proofs.context_laws.contexts_law.Goals as goal
use Rattle.brl_states.proofs.Kept.{keeps_of}

pub returns-clause-steps : goal.returns-clause-steps
returns-clause-steps c s = (let t = c.args.table.now in steps-past t (keeps_of t c.law.ensures) s)

pub returns-clause-each : goal.returns-clause-each
returns-clause-each c s x = (let t = c.args.table.now in let keeps = keeps_of t c.law.ensures in (from-base t keeps s x, into-base t keeps s x))

pub returns-clause-base : goal.returns-clause-base
returns-clause-base c t s = one-base t s

pub returns-clause-settled : goal.returns-clause-settled
returns-clause-settled c t reads chars cond apart = settled t reads chars cond apart

pub returns-clause-met : goal.returns-clause-met
returns-clause-met c t s x = met-alone t s x

pub returns-clause-free : goal.returns-clause-free
returns-clause-free c t s x listed through none = step-free t s x listed through none

pub returns-clause-apart : goal.returns-clause-apart
returns-clause-apart c t s x y z listed also e k none = only-one t s x y z listed also e k none

pub returns-clause-dues : goal.returns-clause-dues
returns-clause-dues c one other both = (λ e. subst (AreOfBoth one other) (sym e) (are-of-both one other), of-both one other both)
