use Rattle.std.proofs.Common.{◌≡◌, ◌⊎◌, ℕ, Some, slice_get}
use Rattle.std.specs.Global.{Vec}
use Rattle.brl_parts.specs.Parts.{IsKept}
use Rattle.brl_pairs.specs.declared.edge.ListedEdge.{ListedEdge}
use Rattle.brl_closure.specs.Fresh.{HaveNumbers, IsOneOf}
use Rattle.brl_closure.proofs.search.fresh.keep_parts.Given as goal

abbrev pub invariant-loop-part : goal.invariant-loop-part
invariant-loop-part g l = record {
  numbers : HaveNumbers l.parts.parts l.yielded l.numbers.items;
  kept : (k : ℕ) (p : _) (own : Vec ListedEdge) → IsKept l.parts k p own → IsKept l.fn.parts k p own ⊎ IsOneOf l.yielded p own;
  stays : (k : ℕ) (p : _) → slice_get l.fn.parts.parts k ≡ Some p → slice_get l.parts.parts k ≡ Some p;
}
