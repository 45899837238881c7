use Rattle.std.proofs.Common.{◌≡◌, take}
use Rattle.brl_clashes.proofs.section.copies_of.Given as goal

-- the clashes so far
abbrev pub invariant-loop-clash : goal.invariant-loop-clash
invariant-loop-clash l = l.copies.items ≡ take l.clash-index l.clashes
