use Rattle.std.proofs.Common.{◌≡◌, ◌-◌, ◌≤◌, drop, length, map}
use Rattle.brl_cut.specs.Alike.{keep_files}
use Rattle.brl_cut.specs.Files.{file_view}
use Rattle.brl_cut.proofs.alike.keep_files.Given as goal

abbrev pub invariant-loop-at : goal.invariant-loop-at
invariant-loop-at l = record {
  within : l.at ≤ length l.files;
  inside : l.at ≤ length l.others;
  same : keep_files (map file_view (drop l.at l.files)) (map file_view (drop l.at l.others)) ≡ keep_files (map file_view l.files) (map file_view l.others);
}

abbrev pub decreases-loop-at : goal.decreases-loop-at
decreases-loop-at l = length l.files - l.at
