use Rattle.std.proofs.Common.{subst}
use Rattle.brl_pairs.specs.Sorted.{IsSortedOf}
use Rattle.brl_closure.specs.Sorted.{SortedView}
use Rattle.brl_closure.proofs.check.sorted.Sorted.law.Goals as goal

pub returns : goal.returns
returns c = subst (λ (v : SortedView). IsSortedOf v.cells v.edges v.sorted) c.self.view_is c.self.invariant
