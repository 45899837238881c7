use Rattle.std.proofs.Common.{◌<◌, ℕ}
use Rattle.brl_parts.specs.Parts.{AreKeptParts}
use Rattle.brl_closure.specs.Pass.{IsMissingBelow}
use Rattle.brl_closure.specs.Passed.{ArePassed}
use Rattle.brl_closure.specs.Refusals.{MissesState}
use Rattle.brl_closure.proofs.check.pass.find_missing.Given as goal

abbrev pub invariant-loop-state : goal.invariant-loop-state
invariant-loop-state g l = record {
  missing : IsMissingBelow (g.M.Machine.behaviour l.machine) l.excused l.body l.state l.missing;
  passed : ArePassed l.body.pairs l.kept.cells l.earlier.lists.items;
  steps : (k rule : ℕ) → k < l.state → MissesState (g.M.Machine.behaviour l.machine) l.body k rule → ⊥;
  kept : AreKeptParts (g.M.Parted.steps_of l.machine) l.body.states l.kept.cells l.kept.parts;
}
