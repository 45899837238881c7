use Rattle.std.proofs.Common.{◌≡◌}
use Rattle.brl_stream.proofs.output.set_chars.Given as goal

abbrev pub invariant-loop-character : goal.invariant-loop-character
invariant-loop-character l = l.buffer.items ≡ l.yielded
