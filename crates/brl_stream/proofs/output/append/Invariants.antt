use Rattle.std.proofs.Common.{◌≡◌, ◌≤◌, ◌-◌, ◌+◌, ◌++◌, length, take, vec_len, vec_capacity}
use Rattle.brl_stream.proofs.output.append.Given as goal

abbrev pub invariant-loop-byte : goal.invariant-loop-byte
invariant-loop-byte l = record {
  room : vec_len l.output + (length l.more - l.byte-index) ≤ vec_capacity l.output;
  items : l.output.items ≡ l.fn.output.items ++ take l.byte-index l.more;
}
