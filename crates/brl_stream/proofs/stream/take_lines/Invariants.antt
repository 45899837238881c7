use Rattle.std.proofs.Common.{◌≡◌, ℕ, ◌+◌, ◌-◌, ◌≤◌, List, length}
use Rattle.brl_stream.specs.Lacking.{uses_from}
use Rattle.brl_stream.specs.Noting.{IsNoted}
use Rattle.brl_stream.specs.Output.{output_by}
use Rattle.brl_stream.proofs.StreamLemmas.{HasProgressed}
use Rattle.brl_stream.proofs.stream.take_lines.Given as goal

abbrev pub invariant-loop-fault : goal.invariant-loop-fault
invariant-loop-fault g l = (taken : List (List ℕ)) × record {
  held : length l.buffer.bytes ≤ l.buffer.taken;
  counted : l.number + length l.buffer.bytes ≤ l.buffer.taken + 1;
  numbered : l.number ≡ 1 + length taken;
  progress : HasProgressed (output_by l.initial.kept.passes l.table l.form) taken (g.R.Input.remaining l.initial.reader) (g.R.Input.remaining l.reader) l.buffer (g.W.Output.contents l.initial.writer) (g.W.Output.contents l.writer) l.number;
  noted : IsNoted (uses_from l.table 1 taken) l.kept.noted;
  few : length (uses_from l.table 1 taken) + length l.buffer.bytes ≤ l.buffer.taken;
  passes : l.kept.passes ≡ l.initial.kept.passes;
  reads : g.R.Input.failures l.reader ≡ g.R.Input.failures l.initial.reader;
  writes : g.W.Output.failures l.writer ≡ g.W.Output.failures l.initial.writer;
}

abbrev pub decreases-loop-fault : goal.decreases-loop-fault
decreases-loop-fault g l = 16777217 - (l.buffer.taken - length l.buffer.bytes)
