use Rattle.std.proofs.Common.{◌∙◌, ap, inl, Err}
use Rattle.std.proofs.lemmas.Result.{err_from_is_err_and}
use Rattle.brl_answers.proofs.StepLemmas.{failed}
use Rattle.brl_tool.proofs.unused.list_unused.Goals as goal

-- the table lacks characters of the alphabet
pub returns-in_err-left_out : goal.returns-in_err-left_out
returns-in_err-left_out g c = failed _ _ c.from_residual.ensures.1 c.in_err-left_out.ensures.fault

-- memory ran out
pub returns-in_err-list_without : goal.returns-in_err-list_without
returns-in_err-list_without g c =
    let p = err_from_is_err_and c.from_residual-in_err-list_without.result c.from_residual-in_err-list_without.ensures.1 in
    inl (c.in_ok-left_out.ensures.all, rw (p.1 ∙ ap Err p.2) tt)

pub returns : goal.returns
returns g c = inl (c.in_ok-left_out.ensures.all, c.in_ok-list_without.ensures)
