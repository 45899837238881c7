use Rattle.std.proofs.Common.{◌≡◌, ℕ, List, ◌∷◌, ◌≤◌, ◌++◌, ◌&&◌, length, take}
use Rattle.std.specs.Prelude.{nat_le}
use Rattle.std.specs.List.{position_from}
use Rattle.brl_rules.specs.Choice.{fits}
use Rattle.brl_rules.specs.Tree.{ends_at, ends_of}
use Rattle.brl_rules.proofs.Compared.{behind_first}
use Rattle.brl_rules.proofs.table.Table.fitting_rule.Given as goal

abbrev pub invariant-loop-taken : goal.invariant-loop-taken
invariant-loop-taken l = record {
  inside : l.taken ≤ length (behind_first l.self l.fn.run l.others);
  node : (at : List ℕ) → ends_at l.tree l.node at ≡ ends_of l.self.rules (l.fn.fold ∷ (take l.taken (behind_first l.self l.fn.run l.others) ++ at));
  best : l.best ≡ position_from (λ r. fits l.self l.before l.rest r && nat_le (length r.chars) l.taken) 0 l.self.rules;
}
