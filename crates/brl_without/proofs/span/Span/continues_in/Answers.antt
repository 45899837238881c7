use Rattle.std.proofs.Common.{◌+◌, nat_eq}
use Rattle.brl_without.proofs.span.Span.continues_in.Goals as goal

pub returns : goal.returns
returns c = λ i. nat_eq (c.from.ensures i) (c.from-2.ensures i + 1)
