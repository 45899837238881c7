use Rattle.brl_pairs.proofs.Unmatched.{apart_unmatched, unmatched_followed}
use Rattle.brl_pairs.proofs.edge_laws.unmatched_law.Goals as goal

pub returns : goal.returns
returns c = record { apart = apart_unmatched; followed = unmatched_followed }
