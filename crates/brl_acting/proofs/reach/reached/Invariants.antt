use Rattle.std.proofs.Common.{◌≡◌, ◌-◌, length}
use Rattle.brl_acting.specs.Capitals.{reached, reached_in}
use Rattle.brl_acting.specs.Sets.{set_view}
use Rattle.brl_acting.proofs.reach.reached.Given as goal

abbrev pub invariant-loop-step : goal.invariant-loop-step
invariant-loop-step l = reached_in (length l.pairs - l._step) l.pairs (set_view l.set) ≡ reached l.pairs (set_view l.fn.from)
