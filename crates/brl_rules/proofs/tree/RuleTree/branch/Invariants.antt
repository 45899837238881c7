use Rattle.std.proofs.Common.{◌≡◌}
use Rattle.brl_rules.specs.Tree.{branch_of, found_in}
use Rattle.brl_rules.proofs.tree.RuleTree.branch.Given as goal

abbrev pub invariant-loop-number : goal.invariant-loop-number
invariant-loop-number l = found_in l.self.nodes l.number l.node l.mark l.number ≡ branch_of l.self l.node l.mark

abbrev pub decreases-loop-number : goal.decreases-loop-number
decreases-loop-number l = l.number
