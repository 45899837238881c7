use Rattle.brl_table.proofs.Commas.{parts-split}
use Rattle.brl_acting.proofs.readings.push_cells.Goals as goal

pub returns-in-None : goal.returns-in-None
returns-in-None c =
    let parts = rw c.in-None.is at (parts-split c.args.word.now c.split_once.result c.split_once.ensures.cases) in
    rw parts c.push_twice.ensures

pub returns-in-Some : goal.returns-in-Some
returns-in-Some c =
    let parts = rw c.in-Some.is at (parts-split c.args.word.now c.split_once.result c.split_once.ensures.cases) in
    rw parts c.push_parts.ensures
