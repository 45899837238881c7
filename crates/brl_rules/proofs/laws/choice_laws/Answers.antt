use Rattle.brl_rules.proofs.ChosenRule.{chosen-rule, chosen-own}
use Rattle.brl_rules.proofs.FitsAtPosition.{fits-FitsAt}
use Rattle.brl_rules.proofs.TakenLengths.{chosen-takes}
use Rattle.brl_rules.proofs.laws.choice_laws.Goals as goal

pub returns : goal.returns
returns c = record {
  fitting = fits-FitsAt;
  first = chosen-rule;
  none = chosen-own;
  some = λ t before rest h. (chosen-takes t before rest h).some;
  room = λ t before rest h. (chosen-takes t before rest h).room;
}
