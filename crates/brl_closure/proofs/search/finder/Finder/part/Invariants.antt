use Rattle.std.proofs.Common.{All}
use Rattle.brl_closure.specs.Fresh.{ArePlaced, IsAmong, IsBegun}
use Rattle.brl_closure.proofs.search.finder.Finder.part.Given as goal

abbrev pub invariant-loop-part : goal.invariant-loop-part
invariant-loop-part g l = record {
  placed : ArePlaced l.parts.parts l.fresh.items l.yielded l.places.items;
  begun : All (λ f. IsAmong l.yielded f.part × IsBegun (g.M.Parted.steps_of l.self.machine.now) f.part f) l.fresh.items;
}
