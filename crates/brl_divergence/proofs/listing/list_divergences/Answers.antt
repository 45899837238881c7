use Rattle.brl_progress.proofs.SliceLemmas.{ends_for}
use Rattle.brl_divergence.specs.Answers.{AreDivergencesOf}
use Rattle.brl_divergence.specs.ListingView.{IsOf}
use Rattle.brl_divergence.proofs.listing.list_divergences.Goals as goal

pub returns : goal.returns
returns g c =
    ends_for (λ machine. AreDivergencesOf (g.M.Machine.behaviour machine)) (λ rest. rest.machine) (λ rest. rest.limit) c.args.machine.now c.args.limit
    (IsOf c.args.machine.now c.args.limit) (λ rest same. (same.same_machine, same.same_limit))
    c.in_ok-begun.begun c.in_ok-begun.ensures.finished c.in_ok-begun.ensures.unfinished c.run_to_end.result c.run_to_end.ensures
