use Rattle.std.proofs.lemmas.Result.{err_from_is_err_and}
use Rattle.brl_cut.proofs.cutting.mark_lines.Goals as goal

pub returns-clause-read : goal.returns-clause-read
returns-clause-read c = rw (c.as_slice.ensures.value, c.in_ok-files.ensures) at c.in_ok-check_marked.ensures.read

pub returns-in_err-check_marked-clause-fault : goal.returns-in_err-check_marked-clause-fault
returns-in_err-check_marked-clause-fault c =
    let p = err_from_is_err_and c.from_residual-in_err-check_marked.result c.from_residual-in_err-check_marked.ensures.1 in
    rw (p.1, p.2) (rw (c.as_slice.ensures.value, c.in_ok-files.ensures) at c.in_err-check_marked.ensures.fault)
