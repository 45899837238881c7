use Rattle.std.proofs.Common.{◌≡◌, ◌+◌, ◌-◌, ◌≤◌, cond, length, take}
use Rattle.brl_stream.specs.InputBuffer.{IsReadOn, HasNoFeed}
use Rattle.brl_stream.proofs.line.next_line.Given as goal

abbrev pub invariant-loop-next : goal.invariant-loop-next
invariant-loop-next g l = record {
  scanned : l.scanned ≤ length l.buffer.bytes;
  plain : HasNoFeed (take l.scanned l.buffer.bytes);
  read : IsReadOn l.initial.buffer l.buffer (g.R.Input.remaining l.initial.reader) (g.R.Input.remaining l.reader);
  calm : g.R.Input.failures l.reader ≡ g.R.Input.failures l.initial.reader;
}

abbrev pub decreases-loop-next : goal.decreases-loop-next
decreases-loop-next g l = 16777217 - (l.buffer.taken + cond l.buffer.longer 1 0)
