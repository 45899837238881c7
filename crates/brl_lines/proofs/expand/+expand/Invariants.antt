use Rattle.std.proofs.Common.{◌≡◌, ◌-◌, length}
use Rattle.brl_lines.specs.Files.{text_at}
use Rattle.brl_lines.proofs.LoopLemmas.{Added}
use Rattle.brl_lines.proofs.expand.+expand.Given as goal

abbrev pub decreases-expand : goal.decreases-expand
decreases-expand g l = l.file.now.depth_left

abbrev pub invariant-loop-row : goal.invariant-loop-row
invariant-loop-row g l = record {
  added : Added (g.S.Source.gives l.fn.source) l.policy l.root l.file l.fn.table l.table l.number l.at;
  count : g.S.Source.faults l.source ≡ g.S.Source.faults l.fn.source;
  same : g.S.Source.gives l.source ≡ g.S.Source.gives l.fn.source;
}

abbrev pub decreases-loop-row : goal.decreases-loop-row
decreases-loop-row g l = length (text_at l.fn.table.files.entries l.file.index) - l.at
