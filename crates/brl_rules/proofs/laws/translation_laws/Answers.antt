use Rattle.brl_rules.proofs.PositionAndRest.{translation_from-step, translation-rest, translation_of_rest-nil, translation_of_rest-step, context_after_all-take}
use Rattle.brl_rules.proofs.laws.translation_laws.Goals as goal

pub returns : goal.returns
returns c = record {
  position = translation_from-step;
  rest = translation-rest;
  end = translation_of_rest-nil;
  rule = translation_of_rest-step;
  context = context_after_all-take;
}
