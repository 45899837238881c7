use Rattle.std.proofs.Common.{◌≡◌, ◌++◌, map, take}
use Rattle.brl_contexts.specs.Met.{met_at}
use Rattle.brl_contexts.proofs.met.push_at.Given as goal

abbrev pub invariant-loop-place : goal.invariant-loop-place
invariant-loop-place l = l.found.items ≡ l.fn.found.items ++ map (met_at l.numbers l.bar) (take l.place-index l.places)
