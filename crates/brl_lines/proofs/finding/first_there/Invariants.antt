use Rattle.std.proofs.Common.{◌≡◌}
use Rattle.brl_lines.specs.Files.{answers_of}
use Rattle.brl_lines.specs.Outcome.{AreGiven}
use Rattle.brl_lines.proofs.FindingLemmas.{Skips}
use Rattle.brl_lines.proofs.finding.first_there.Given as goal

abbrev pub invariant-loop-path : goal.invariant-loop-path
invariant-loop-path g l = record {
  given : AreGiven (g.S.Source.gives l.source) (answers_of l.files.entries);
  skips : Skips (g.S.Source.gives l.fn.source) l.fn.files.entries l.paths l.other l.files.entries l.path-index;
  count : g.S.Source.faults l.source ≡ g.S.Source.faults l.fn.source;
  same : g.S.Source.gives l.source ≡ g.S.Source.gives l.fn.source;
}
