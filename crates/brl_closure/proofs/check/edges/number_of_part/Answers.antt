use Rattle.std.proofs.Common.{List, subst}
use Rattle.brl_pairs.specs.Listed.{AreListedEdges}
use Rattle.brl_pairs.specs.declared.step.Step.{Step}
use Rattle.brl_closure.proofs.Fresh.{kept_more}
use Rattle.brl_closure.proofs.Listing.{kept_with}
use Rattle.brl_closure.proofs.check.edges.number_of_part.Goals as goal

pub returns-in-Ok-clause-kept : goal.returns-in-Ok-clause-kept
returns-in-Ok-clause-kept g c =
    let states = c.args.body.now.states in
    let cells = c.edges_of_steps.new.cells in
    kept_with (g.M.Parted.steps_of c.args.machine.now) states c.args.kept.now.cells cells c.edges_of_steps.ensures.cells c.args.kept.now.parts c.add.new.self c.args.part c.in-Ok.edges c.requires
    (subst (λ (l : List (Step g.row.M-State.Denot)). AreListedEdges states cells l c.in-Ok.edges.items) c.in_ok-steps.ensures c.in-Ok.ensures.edges) c.in_ok-number-in-Ok.ensures.kept

pub returns-in-Err-Fault-clause-kept : goal.returns-in-Err-Fault-clause-kept
returns-in-Err-Fault-clause-kept g c =
    kept_more (g.M.Parted.steps_of c.args.machine.now) c.args.body.now.states c.args.body.now.states (λ k s at. at) c.args.kept.now.cells c.edges_of_steps.new.cells c.edges_of_steps.ensures.cells c.args.kept.now.parts c.requires
