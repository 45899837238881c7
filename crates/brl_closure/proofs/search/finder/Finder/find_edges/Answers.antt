use Rattle.brl_closure.proofs.Fresh.{kept_more}
use Rattle.brl_closure.proofs.search.finder.Finder.find_edges.Goals as goal

pub returns-in_ok-edges-in-None-clause-parts : goal.returns-in_ok-edges-in-None-clause-parts
returns-in_ok-edges-in-None-clause-parts g c =
    kept_more (g.M.Parted.steps_of c.args.self.now.machine.now) c.args.trail.now.states c.list_edges.new.trail.states c.in_ok-edges-in-None.ensures.advances.1.states c.args.cells.now c.list_edges.new.cells c.in_ok-edges-in-None.ensures.cells c.args.parts.now c.requires.parts
