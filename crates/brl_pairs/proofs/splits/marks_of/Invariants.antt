use Rattle.std.proofs.Common.{◌≡◌, length}
use Rattle.brl_pairs.proofs.SplitsLaws.{AreFirstMarks}
use Rattle.brl_pairs.proofs.splits.marks_of.Given as goal

abbrev pub invariant-loop-position : goal.invariant-loop-position
invariant-loop-position l = record {
  many : length l.marks.items ≡ l.count;
  marks : AreFirstMarks l.sorted l.shorter l.marks.items l.position;
}
