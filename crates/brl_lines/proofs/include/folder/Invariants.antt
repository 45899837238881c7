use Rattle.std.proofs.Common.{◌≡◌, ◌≤◌, length, take}
use Rattle.brl_lines.specs.Includes.{folder_of}
use Rattle.brl_lines.proofs.include.folder.Given as goal

abbrev pub invariant-loop-end : goal.invariant-loop-end
invariant-loop-end l = record {
  within : l.end ≤ length l.path;
  same : folder_of (take l.end l.path) ≡ folder_of l.path;
}

abbrev pub decreases-loop-end : goal.decreases-loop-end
decreases-loop-end l = l.end
