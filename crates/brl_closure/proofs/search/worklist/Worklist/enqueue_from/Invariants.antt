use Rattle.std.proofs.Common.{◌≡◌, ◌+◌, ◌<◌, ◌≤◌, ℕ, All}
use Rattle.std.specs.BinaryHeap.{heap_items, heap_len}
use Rattle.brl_closure.specs.Worklist.{IsItemOf, IsQueued}
use Rattle.brl_closure.proofs.search.worklist.Worklist.enqueue_from.Given as goal

abbrev pub invariant-loop-number : goal.invariant-loop-number
invariant-loop-number g l = record {
  cells : l.self.cells ≡ l.fn.self.cells;
  parts : l.self.parts ≡ l.fn.self.parts;
  expanded : l.self.expanded ≡ l.fn.self.expanded;
  new : (n : ℕ) → l.from ≤ n → n < l.number → IsQueued n (heap_items l.self.queue);
  old : (n : ℕ) → IsQueued n (heap_items l.fn.self.queue) → IsQueued n (heap_items l.self.queue);
  items : All (IsItemOf l.pairs) (heap_items l.fn.self.queue) → All (IsItemOf l.pairs) (heap_items l.self.queue);
  count : heap_len l.self.queue + l.from ≡ heap_len l.fn.self.queue + l.number;
}
