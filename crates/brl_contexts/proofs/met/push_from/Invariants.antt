use Rattle.std.proofs.Common.{◌≡◌, ◌++◌, map}
use Rattle.std.specs.List.{range_with_len}
use Rattle.brl_contexts.specs.Met.{met_at}
use Rattle.brl_contexts.proofs.met.push_from.Given as goal

abbrev pub invariant-loop-after : goal.invariant-loop-after
invariant-loop-after l = l.found.items ≡ l.fn.found.items ++ map (met_at l.numbers l.bar) (range_with_len l.from l.after)
