use Rattle.std.proofs.Common.{◌≤◌}
use Rattle.std.specs.BTreeMap.{btree_map_len}
use Rattle.brl_divergence.specs.Answers.{IsListed}
use Rattle.brl_dues.specs.Steps.{dues_machine}
use Rattle.brl_without.specs.Without.{without}
use Rattle.brl_search.proofs.table_clashes.texts_of.Given as goal

-- the texts of the clashes so far
abbrev pub invariant-loop-it : goal.invariant-loop-it
invariant-loop-it l = record {
  listed : IsListed (without l.left_out (dues_machine l.table)) l.list;
  few : btree_map_len l.list ≤ l.it-index;
}
