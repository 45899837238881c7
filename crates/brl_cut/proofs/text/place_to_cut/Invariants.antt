use Rattle.std.proofs.Common.{◌≡◌, ◌≤◌}
use Rattle.brl_cut.specs.Edits.{character_at}
use Rattle.brl_cut.proofs.text.place_to_cut.Given as goal

abbrev pub invariant-loop-at : goal.invariant-loop-at
invariant-loop-at l = record {
  low : l.at ≤ 2045;
  same : character_at l.at l.row ≡ character_at 2045 l.row;
}

abbrev pub decreases-loop-at : goal.decreases-loop-at
decreases-loop-at l = l.at
