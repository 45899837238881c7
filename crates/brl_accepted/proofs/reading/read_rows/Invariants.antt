use Rattle.std.proofs.Common.{map, take}
use Rattle.brl_accepted.specs.Words.{AreFound, list_of, names_read}
use Rattle.brl_accepted.proofs.reading.read_rows.Given as goal

-- what the lines so far name
abbrev pub invariant-loop-place : goal.invariant-loop-place
invariant-loop-place l = AreFound (names_read l.reader) (list_of l.reader) l.path (take l.place (map (λ row. row.now) l.rows)) l.found
