use Rattle.std.proofs.Common.{◌≡◌, ℕ, ◌<◌, ◌≤◌, Some, flat_map, length, slice_get}
use Rattle.std.specs.List.{range_with_len}
use Rattle.brl_contexts.specs.Contexts.{edge_in}
use Rattle.brl_contexts.specs.declared.changes.Change.{Change}
use Rattle.brl_contexts.proofs.contexts.edges_in.Given as goal

abbrev pub invariant-loop-form : goal.invariant-loop-form
invariant-loop-form l = record {
  edges : l.edges.items ≡ flat_map (edge_in l.forms l.own) (range_with_len 0 l.form);
  passed : (i : ℕ) (c : Change) → i < l.next → slice_get l.own.changes.items i ≡ Some c → c.form < l.form;
  ahead : (i : ℕ) (c : Change) → l.next ≤ i → slice_get l.own.changes.items i ≡ Some c → l.form ≤ c.form;
  within : l.next ≤ length l.own.changes.items;
}
