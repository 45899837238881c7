use Rattle.std.proofs.Common.{◌≡◌, ◌++◌, All}
use Rattle.std.specs.BTreeMap.{btree_map_len}
use Rattle.brl_divergence.specs.Listed.{AreDivergences, rules_of}
use Rattle.brl_dues.specs.Steps.{dues_machine}
use Rattle.brl_search.specs.Clashes.{IsRuleClash, rules_of_clashes}
use Rattle.brl_without.specs.Without.{without}
use Rattle.brl_search.proofs.table_clashes.rule_clashes.Given as goal

abbrev pub invariant-loop-rules : goal.invariant-loop-rules
invariant-loop-rules l = record {
  known : All (IsRuleClash l.left_out l.table) l.known.items;
  each : All (IsRuleClash l.left_out l.table) l.clashes.items;
  rest : AreDivergences (without l.left_out (dues_machine l.table)) l.rest;
  rules : rules_of_clashes l.clashes.items ++ rules_of l.rest ≡ rules_of l.fn.list;
}

abbrev pub decreases-loop-rules : goal.decreases-loop-rules
decreases-loop-rules l = btree_map_len l.rest
