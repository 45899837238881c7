use Rattle.brl_table.proofs.SurveyLaws.{finds-first, finds-none}
use Rattle.brl_table.proofs.SurveyWhole.{finds-nothing}
use Rattle.brl_table.proofs.faulty.survey_laws.Goals as goal

pub returns : goal.returns
returns c = record {
  none = finds-none;
  first = finds-first;
  all = λ lines.
      let good = c.good_lines_law.ensures lines in
      ((λ none. good.0 ((finds-nothing lines).0 none)), (λ are. (finds-nothing lines).1 (good.1 are)));
}
