use Rattle.std.proofs.Common.{◌≡◌, ℕ, List, drop, length}
use Rattle.brl_rules.specs.Tree.{ends_at, ends_of}
use Rattle.brl_rules.proofs.TreeContents.{inserted}
use Rattle.brl_rules.proofs.tree.RuleTree.of_rules.Given as goal

abbrev pub invariant-loop-number : goal.invariant-loop-number
invariant-loop-number l = record {
  chains : length l.tree.chains ≡ 16384;
  ends : (at : List ℕ) → inserted at l.number (drop l.number l.rules) (ends_at l.tree 0 at) ≡ ends_of l.rules at;
}
