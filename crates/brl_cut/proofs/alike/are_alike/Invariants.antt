use Rattle.std.proofs.Common.{◌≡◌, ◌-◌, ◌≤◌, drop, length}
use Rattle.brl_cut.specs.Alike.{are_alike}
use Rattle.brl_cut.specs.Edits.{whole_lines}
use Rattle.brl_cut.proofs.alike.are_alike.Given as goal

abbrev pub invariant-loop-at : goal.invariant-loop-at
invariant-loop-at l = record {
  within : l.at ≤ length l.text;
  inside : l.there ≤ length l.other;
  same : are_alike (whole_lines (drop l.at l.text)) (whole_lines (drop l.there l.other)) ≡ are_alike (whole_lines l.text) (whole_lines l.other);
}

abbrev pub decreases-loop-at : goal.decreases-loop-at
decreases-loop-at l = length l.text - l.at
