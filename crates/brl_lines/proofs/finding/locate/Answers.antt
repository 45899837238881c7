use Rattle.std.proofs.Common.{◌∙◌, ap, map, string_bytes, take}
use Rattle.brl_lines.proofs.finding.locate.Goals as goal

pub first_there-requires-clause-first : goal.first_there-requires-clause-first
first_there-requires-clause-first g c = ap (λ paths. take 1 (map string_bytes paths)) c.as_slice.ensures.value ∙ ap (take 1) c.in_ok-paths.ensures

pub returns-clause-ok : goal.returns-clause-ok
returns-clause-ok g c = rw (c.as_slice.ensures.value, c.in_ok-paths.ensures, c.folders.ensures) at c.first_there.ensures.ok

pub returns-clause-err : goal.returns-clause-err
returns-clause-err g c = rw (c.as_slice.ensures.value, c.in_ok-paths.ensures, c.folders.ensures) at c.first_there.ensures.err
