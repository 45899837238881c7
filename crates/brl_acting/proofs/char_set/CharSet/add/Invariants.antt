use Rattle.std.proofs.Common.{◌≡◌, ◌||◌, ℕ, take}
use Rattle.brl_acting.specs.Sets.{is_in}
use Rattle.brl_acting.proofs.char_set.CharSet.add.Given as goal

abbrev pub invariant-loop-c : goal.invariant-loop-c
invariant-loop-c l = (q : ℕ) → is_in l.self.set.keys q ≡ (is_in l.fn.self.set.keys q || is_in (take l.c-index l.chars) q)
