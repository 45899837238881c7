use Rattle.brl_clashes.proofs.Showings.{memory_before}
use Rattle.brl_clashes.specs.Showing.{asked_of}
use Rattle.brl_clashes.proofs.showing.show_after_head.Goals as goal

pub returns-in_err-kept-clause-shows : goal.returns-in_err-kept-clause-shows
returns-in_err-kept-clause-shows g c = memory_before (asked_of c.args.asked) (g.O.Output.contents c.args.out.now) c.from_residual.result c.from_residual.ensures.1

pub returns-in_err-kinds-clause-shows : goal.returns-in_err-kinds-clause-shows
returns-in_err-kinds-clause-shows g c = memory_before (asked_of c.args.asked) (g.O.Output.contents c.args.out.now) c.from_residual-in_err-kinds.result c.from_residual-in_err-kinds.ensures.1
