use Rattle.std.proofs.Common.{◌≡◌, ◌<◌, ℕ, Some, slice_get}
use Rattle.brl_pairs.specs.declared.sorted.SortedEdge.{SortedEdge}
use Rattle.brl_divergence.specs.Found.{AreSettledAt, IsSound, Keeps}
use Rattle.brl_divergence.proofs.explorer.Explorer.settle_place.Given as goal

abbrev pub invariant-loop-first : goal.invariant-loop-first
invariant-loop-first g l = record {
  sound : IsSound g.M.Machine.behaviour l.self.finder.now l.self.expanded.now l.found;
  keeps : Keeps l.fn.found l.found;
  settled : (k : ℕ) (x : SortedEdge) → k < l.first-index → slice_get l.first-items k ≡ Some x → AreSettledAt (g.M.Machine.behaviour l.self.finder.now.machine.now) l.found l.state x.place l.second;
}
