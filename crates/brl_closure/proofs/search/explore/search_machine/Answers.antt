use Rattle.brl_progress.proofs.SliceLemmas.{ends_for}
use Rattle.brl_closure.specs.Answers.{IsOutcome}
use Rattle.brl_closure.specs.SearchView.{IsOf}
use Rattle.brl_closure.proofs.search.explore.search_machine.Goals as goal

pub returns : goal.returns
returns g c =
    ends_for (λ machine. IsOutcome (g.M.Machine.behaviour machine)) (λ rest. rest.machine) (λ rest. rest.limit) c.args.machine.now c.args.limit
    (IsOf c.args.machine.now c.args.limit) (λ rest same. (same.same_machine, same.same_limit))
    c.in_ok-begun.begun c.in_ok-begun.ensures.finished c.in_ok-begun.ensures.unfinished c.run_to_end.result c.run_to_end.ensures
