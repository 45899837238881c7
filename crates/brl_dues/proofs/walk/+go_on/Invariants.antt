use Rattle.std.proofs.Common.{◌≡◌, ◌++◌, drop, length}
use Rattle.std.specs.List.{flat_map}
use Rattle.brl_dues.specs.Letters.{caps_run_steps}
use Rattle.brl_dues.proofs.Walking.{steps_after}
use Rattle.brl_dues.proofs.walk.+go_on.Given as goal

abbrev pub decreases-go_on : goal.decreases-go_on
decreases-go_on l = length l.folds.now

-- what is listed and what the capitals that are left give is all that goes on from the beginning
abbrev pub invariant-loop-capital : goal.invariant-loop-capital
invariant-loop-capital l =
    l.listed.items
    ++ flat_map (steps_after l.origin.table.now l.origin.state.now l.origin.letter.now l.taken.number l.taken.after l.taken.cells.now l.beginning.capitals.items l.fold l.others) (drop l.capital-index l.capital-items)
    ≡ l.fn.listed.items ++ caps_run_steps l.origin.table.now l.origin.state.now l.origin.letter.now l.taken.number l.taken.after l.taken.cells.now l.beginning.capitals.items l.folds
