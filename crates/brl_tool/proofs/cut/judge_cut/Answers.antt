use Rattle.std.proofs.Common.{List, ap, inl, map, subst}
use Rattle.brl_answers.proofs.StepLemmas.{ended}
use Rattle.brl_acting.specs.WholeTable.{ActingView, acting_view}
use Rattle.brl_tool.specs.Cutting.{AnswersOver}
use Rattle.brl_without.specs.Alphabet.{alphabet_view}
use Rattle.brl_tool.proofs.cut.judge_cut.Goals as goal

-- no lines are found that can act
pub returns-in_err-acting : goal.returns-in_err-acting
returns-in_err-acting c = ended _ _ c.from_residual.ensures.1 c.in_err-acting.ensures.fault

pub returns : goal.returns
returns c =
    inl (
      map acting_view c.in_ok-acting.acting.items,
      c.in_ok-acting.ensures.acting,
      subst (λ (lines : List ActingView). AnswersOver c.args.asked.rewrite c.args.asked.table.now c.args.asked.dir.now (alphabet_view c.args.alphabet.now) c.args.of.now lines c.answer_over.result)
          (ap (map acting_view) c.as_slice.ensures.value) c.answer_over.ensures,
    )
