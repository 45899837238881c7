use Rattle.std.proofs.lemmas.Result.{err_from_is_err_and}
use Rattle.brl_cut.proofs.rounds.survey_files.Goals as goal

pub returns-in_err-loaded-clause-fault : goal.returns-in_err-loaded-clause-fault
returns-in_err-loaded-clause-fault c =
    let p = err_from_is_err_and c.from_residual.result c.from_residual.ensures.1 in
    rw (p.1, p.2) c.in_err-loaded.ensures

pub returns-clause-found : goal.returns-clause-found
returns-clause-found c = (
  c.in_ok-loaded.loaded.lines,
  c.in_ok-loaded.ensures,
  c.in_ok-survey_loaded.ensures.faulty,
  c.in_ok-survey_loaded.ensures.places,
)
