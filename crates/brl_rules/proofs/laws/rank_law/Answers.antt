use Rattle.brl_rules.proofs.ComputedRanking.{in_rank-ranking}
use Rattle.brl_rules.proofs.RankWeight.{longer-first}
use Rattle.brl_rules.proofs.UniqueRanking.{ranking-unique}
use Rattle.brl_rules.proofs.laws.rank_law.Goals as goal

pub returns : goal.returns
returns c = record { one = ranking-unique; computed = in_rank-ranking; longer_first = longer-first }
