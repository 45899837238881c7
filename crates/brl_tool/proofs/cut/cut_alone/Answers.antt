use Rattle.std.proofs.Common.{◌∙◌, Err, ap, inl}
use Rattle.std.proofs.lemmas.Result.{err_from_is_err_and}
use Rattle.brl_answers.proofs.StepLemmas.{failed}
use Rattle.brl_tool.proofs.cut.cut_alone.Goals as goal

pub returns-in_err-of-clause-cuts : goal.returns-in_err-of-clause-cuts
returns-in_err-of-clause-cuts g c = failed _ _ c.from_residual.ensures.1 c.in_err-of.ensures.fault

-- memory runs out at the answer
pub returns-in_err-answer_of-clause-cuts : goal.returns-in_err-answer_of-clause-cuts
returns-in_err-answer_of-clause-cuts g c =
    let p = err_from_is_err_and c.from_residual-in_err-answer_of.result c.from_residual-in_err-answer_of.ensures.1 in
    inl (c.in_ok-of.of, c.in_ok-of.ensures.cut, rw (p.1 ∙ ap Err p.2) tt)

pub returns-clause-cuts : goal.returns-clause-cuts
returns-clause-cuts g c = inl (c.in_ok-of.of, c.in_ok-of.ensures.cut, c.in_ok-answer_of.ensures)
