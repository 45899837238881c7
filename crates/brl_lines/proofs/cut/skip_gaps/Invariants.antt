use Rattle.std.proofs.Common.{◌-◌, ◌≡◌, ◌≤◌}
use Rattle.std.specs.Str.{IsCharBoundary}
use Rattle.brl_lines.specs.Rows.{piece}
use Rattle.brl_lines.specs.Tokens.{tokens}
use Rattle.brl_lines.proofs.cut.skip_gaps.Given as goal

abbrev pub invariant-loop-at : goal.invariant-loop-at
invariant-loop-at l = record { from : l.from ≤ l.at; to : l.at ≤ l.to; boundary : IsCharBoundary l.text l.at; same : tokens (piece l.text l.from l.to) ≡ tokens (piece l.text l.at l.to) }

abbrev pub decreases-loop-at : goal.decreases-loop-at
decreases-loop-at l = l.to - l.at
