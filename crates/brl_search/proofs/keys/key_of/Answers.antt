use Rattle.std.proofs.Common.{◌∙◌, ap, arith}
use Rattle.std.proofs.lemmas.List.{take_all}
use Rattle.std.specs.List.{fold}
use Rattle.brl_search.specs.Smaller.{key_of, mixed}
use Rattle.brl_search.proofs.keys.key_of.Goals as goal

pub returns : goal.returns
unfolding key_of
returns c =
    c.loop-cell.invariant ∙ ap (fold mixed 0) (take_all c.loop-cell.cell-index c.args.cells.now (omega (arith, c.loop-cell-test.false)))
