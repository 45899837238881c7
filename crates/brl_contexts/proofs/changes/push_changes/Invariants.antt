use Rattle.std.proofs.Common.{◌≡◌, ℕ, ◌-◌, ◌<◌, ◌≤◌, Some, length, slice_get}
use Rattle.brl_contexts.specs.Changes.{AreChangesTo}
use Rattle.brl_contexts.specs.Named.{AreCarried, StillNames}
use Rattle.brl_contexts.specs.declared.met.Met.{Met}
use Rattle.brl_contexts.proofs.Groups.{bound_of}
use Rattle.brl_contexts.proofs.changes.push_changes.Given as goal

abbrev pub invariant-loop-from : goal.invariant-loop-from
invariant-loop-from g l = record {
  within : l.from ≤ length l.met;
  passed : (i : ℕ) (x : Met) → i < l.from → slice_get l.met i ≡ Some x → x.form < bound_of l.met l.from (length l.forms.reads.items);
  names : StillNames l.fn.named l.named;
  carried : AreCarried (g.B.Based.sharing l.machine) l.named;
  changes : AreChangesTo g.B.State.PartialEq.eq (g.B.Machine.behaviour l.machine) (g.B.Based.sharing l.machine) l.named l.state (bound_of l.met l.from (length l.forms.reads.items)) l.changes.items;
}

abbrev pub decreases-loop-from : goal.decreases-loop-from
decreases-loop-from g l = length l.met - l.from
