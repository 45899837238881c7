use Rattle.brl_pairs.proofs.EdgesLaws.{in_order}
use Rattle.brl_pairs.proofs.edge_laws.edges_law.Goals as goal

pub returns : goal.returns
returns g c = λ states number edges h. in_order (g.M.Machine.behaviour c.args.machine.now) c.start.ensures.laws states number edges h
