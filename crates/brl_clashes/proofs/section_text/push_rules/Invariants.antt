use Rattle.std.proofs.Common.{◌≡◌, ◌++◌, take}
use Rattle.brl_search.specs.Clashes.{rules_of_clashes}
use Rattle.brl_clashes.proofs.section_text.push_rules.Given as goal

-- the pairs of the clashes so far are listed
abbrev pub invariant-loop-clash : goal.invariant-loop-clash
invariant-loop-clash l = l.listed ≡ l.fn.listed ++ rules_of_clashes (take l.clash-index l.clashes)
