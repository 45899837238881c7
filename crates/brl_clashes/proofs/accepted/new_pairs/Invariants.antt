use Rattle.std.proofs.Common.{◌≡◌, take}
use Rattle.brl_clashes.specs.Sections.{clashes_beside}
use Rattle.brl_search.specs.Clashes.{rules_of_clashes}
use Rattle.brl_clashes.proofs.accepted.new_pairs.Given as goal

-- those of the clashes so far whose pairs aren't listed
abbrev pub invariant-loop-clash : goal.invariant-loop-clash
invariant-loop-clash l = l.new.items ≡ rules_of_clashes (clashes_beside l.listed (take l.clash-index l.clashes))
