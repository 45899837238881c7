use Rattle.brl_acting.proofs.FewerLines.{fewer_definitions, fewer_lines, fewer_ranked, fewer_rules, same_clashes}
use Rattle.brl_acting.proofs.laws.idle_laws.Goals as goal

pub returns : goal.returns
returns c = record {
  rules = fewer_rules;
  definitions = fewer_definitions;
  together = fewer_lines;
  clashes = same_clashes;
  ranking = fewer_ranked;
}
