use Rattle.std.proofs.Common.{◌≡◌, take}
use Rattle.brl_acting.specs.Capitals.{turned}
use Rattle.brl_acting.proofs.reach.turned.Given as goal

abbrev pub invariant-loop-first : goal.invariant-loop-first
invariant-loop-first l = l.others.items ≡ turned (take l.first-index l.pairs)
