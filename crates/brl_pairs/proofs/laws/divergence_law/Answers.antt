use Rattle.brl_pairs.proofs.Closed.{diverges_from_closed, each_divergence, texts_from_paths}
use Rattle.brl_pairs.proofs.laws.divergence_law.Goals as goal

pub returns-clause-paths : goal.returns-clause-paths
returns-clause-paths g c rules closed = diverges_from_closed _ _ c.start.ensures.laws rules closed

pub returns-clause-texts : goal.returns-clause-texts
returns-clause-texts g c rules closed = texts_from_paths _ c.start.ensures.laws rules (diverges_from_closed _ _ c.start.ensures.laws rules closed)

pub returns-clause-each : goal.returns-clause-each
returns-clause-each g c rules closed = each_divergence (g.M.Machine.behaviour c.args.machine.now) rules (diverges_from_closed _ _ c.start.ensures.laws rules closed)
