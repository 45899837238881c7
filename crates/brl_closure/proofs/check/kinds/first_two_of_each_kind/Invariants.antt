use Rattle.std.proofs.Common.{◌≡◌, ℕ, List, Some, map, slice_get, take}
use Rattle.brl_pairs.specs.Listed.{edges_with}
use Rattle.brl_pairs.specs.Members.{IsMember}
use Rattle.brl_pairs.specs.declared.edge.ListedEdge.{ListedEdge}
use Rattle.brl_closure.specs.Alike.{kind_with}
use Rattle.brl_closure.proofs.KeptSteps.{ArePassed}
use Rattle.brl_closure.proofs.check.kinds.first_two_of_each_kind.Given as goal

abbrev pub invariant-loop-edge : goal.invariant-loop-edge
invariant-loop-edge l = record {
  passed : (cells : List (List ℕ)) → ArePassed l.excused (edges_with cells (take l.edge-index l.edges)) (edges_with cells l.kept.items) (map (kind_with cells) l.once) (map (kind_with cells) l.twice);
  only : (place : ℕ) (e : ListedEdge) → slice_get l.kept.items place ≡ Some e → IsMember l.edges e;
}
