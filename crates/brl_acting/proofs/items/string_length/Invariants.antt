use Rattle.std.proofs.Common.{◌≡◌, drop, false}
use Rattle.brl_acting.specs.Tests.{string_length}
use Rattle.brl_acting.proofs.items.string_length.Given as goal

abbrev pub invariant-loop-place : goal.invariant-loop-place
invariant-loop-place l = string_length l.place l.escaped (drop l.place l.marks) ≡ string_length 0 false l.marks
