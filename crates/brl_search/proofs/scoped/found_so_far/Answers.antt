use Rattle.std.proofs.Common.{◌∙◌, inr, sym}
use Rattle.brl_search.proofs.FoundFor.{first_clash}
use Rattle.brl_search.proofs.scoped.found_so_far.Goals as goal

pub returns-in-Some : goal.returns-in-Some
returns-in-Some c left_out t limit are =
    first_clash c.args.excused.now left_out t limit c.args.list.items are.0 (inr (c.args.states, c.args.pairs, are.1)) c.in-Some.it (sym c.first_beside.ensures ∙ c.in-Some.is)
