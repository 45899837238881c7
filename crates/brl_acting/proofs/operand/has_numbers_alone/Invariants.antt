use Rattle.std.proofs.Common.{◌≡◌, drop}
use Rattle.brl_acting.specs.Words.{has_numbers_alone}
use Rattle.brl_acting.proofs.operand.has_numbers_alone.Given as goal

abbrev pub invariant-loop-place : goal.invariant-loop-place
invariant-loop-place l = has_numbers_alone (drop l.place l.bytes) ≡ has_numbers_alone l.word
