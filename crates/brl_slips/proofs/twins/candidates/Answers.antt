use Rattle.std.proofs.Common.{arith}
use Rattle.brl_slips.proofs.Pairing.{pairs-whole}
use Rattle.brl_slips.proofs.twins.candidates.Goals as goal

pub returns : goal.returns
returns c = pairs-whole c.args.lexicon.now c.loop-other.other c.loop-other.pairs.items (omega (arith, c.loop-other-test.false)) c.loop-other.invariant
