use Rattle.std.proofs.Common.{◌≡◌, ℕ, List, length, take, Some}
use Rattle.brl_rules.specs.Tree.{ends_at, node_at}
use Rattle.brl_rules.proofs.tree.RuleTree.insert.Given as goal

abbrev pub invariant-loop-character : goal.invariant-loop-character
invariant-loop-character l = record {
  path : node_at l.self 0 (take l.character-index l.chars) ≡ Some l.node;
  chains : length l.self.chains ≡ 16384;
  ends : (at : List ℕ) → ends_at l.self 0 at ≡ ends_at l.fn.self 0 at;
}
