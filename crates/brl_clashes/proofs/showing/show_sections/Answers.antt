use Rattle.brl_clashes.proofs.Showings.{same_fault}
use Rattle.brl_clashes.specs.Showing.{asked_of}
use Rattle.brl_clashes.proofs.showing.show_sections.Goals as goal

pub returns-in_err-show_each-clause-shows : goal.returns-in_err-show_each-clause-shows
returns-in_err-show_each-clause-shows g c =
    same_fault (asked_of c.args.plan.asked) (g.O.Output.contents c.args.out.now) (g.O.Output.contents c.show_each.new.out) c.in_err-show_each.field-0.0 c.from_residual.result c.from_residual.ensures.1 c.in_err-show_each.ensures.shows
