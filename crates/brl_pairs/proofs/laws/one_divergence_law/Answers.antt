use Rattle.brl_pairs.proofs.Divergence.{diverge_once, diverge_where_listed}
use Rattle.brl_pairs.proofs.laws.one_divergence_law.Goals as goal

pub returns-clause-once : goal.returns-clause-once
returns-clause-once g c = diverge_once

pub returns-clause-listed : goal.returns-clause-listed
returns-clause-listed g c = diverge_where_listed _
