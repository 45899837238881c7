use Rattle.std.proofs.Common.{◌≡◌, take}
use Rattle.brl_acting.specs.Capitals.{seconds}
use Rattle.brl_acting.specs.Sets.{set_view}
use Rattle.brl_acting.proofs.reach.seconds.Given as goal

abbrev pub invariant-loop-first : goal.invariant-loop-first
invariant-loop-first l = l.chars.items ≡ seconds (take l.first-index l.pairs) (set_view l.set)
