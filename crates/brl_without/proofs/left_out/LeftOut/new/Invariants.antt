use Rattle.std.proofs.Common.{◌≡◌, ℕ, take}
use Rattle.brl_without.specs.LeftOut.{is_left_out}
use Rattle.brl_without.proofs.left_out.LeftOut.new.Given as goal

abbrev pub invariant-loop-c : goal.invariant-loop-c
invariant-loop-c l = (q : ℕ) → is_left_out l.set.keys q ≡ is_left_out (take l.c-index l.c-items) q
