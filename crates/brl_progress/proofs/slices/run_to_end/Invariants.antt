use Rattle.brl_progress.specs.Slices.{EndsWith}
use Rattle.brl_progress.proofs.SliceLemmas.{steps_left_in}
use Rattle.brl_progress.proofs.slices.run_to_end.Given as goal

abbrev pub invariant-loop-slice : goal.invariant-loop-slice
invariant-loop-slice g l = (outcome : g.row.S-Outcome.Denot) → EndsWith g.S.Sliced.ends_with l.slice outcome → EndsWith g.S.Sliced.ends_with l.fn.begun outcome

abbrev pub decreases-loop-slice : goal.decreases-loop-slice
decreases-loop-slice g l = steps_left_in g.S.Sliced.steps_left l.slice
