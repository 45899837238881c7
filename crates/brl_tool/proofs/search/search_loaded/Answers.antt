use Rattle.std.proofs.Common.{◌∙◌, ap, inl, Err}
use Rattle.std.proofs.lemmas.Result.{err_from_is_err_and}
use Rattle.brl_answers.proofs.StepLemmas.{ended, failed}
use Rattle.brl_tool.proofs.search.search_loaded.Goals as goal

-- the table lacks characters of the alphabet
pub returns-in_err-left_out-clause-searches : goal.returns-in_err-left_out-clause-searches
returns-in_err-left_out-clause-searches g c = failed _ _ c.from_residual.ensures.1 c.in_err-left_out.ensures.fault

-- it has them, and it isn't known what is excused
pub returns-in_err-excusal-clause-searches : goal.returns-in_err-excusal-clause-searches
returns-in_err-excusal-clause-searches g c = inl (c.in_ok-left_out.ensures.all, ended _ _ c.from_residual-in_err-excusal.ensures.1 c.in_err-excusal.ensures.fault)

-- memory ran out
pub returns-in_err-verdict-clause-searches : goal.returns-in_err-verdict-clause-searches
returns-in_err-verdict-clause-searches g c =
    let p = err_from_is_err_and c.from_residual-in_err-verdict.result c.from_residual-in_err-verdict.ensures.1 in
    inl (c.in_ok-left_out.ensures.all, inl (c.in_ok-excusal.excusal, c.in_ok-excusal.ensures.excuses, rw (p.1 ∙ ap Err p.2) tt))

pub returns-clause-searches : goal.returns-clause-searches
returns-clause-searches g c = inl (c.in_ok-left_out.ensures.all, inl (c.in_ok-excusal.excusal, c.in_ok-excusal.ensures.excuses, c.in_ok-verdict.ensures))

pub returns-in_err-verdict-clause-count : goal.returns-in_err-verdict-clause-count
returns-in_err-verdict-clause-count g c =
    let p = err_from_is_err_and c.from_residual-in_err-verdict.result c.from_residual-in_err-verdict.ensures.1 in
    rw (p.1 ∙ ap Err p.2) (inl c.in_ok-excusal.ensures.count)
