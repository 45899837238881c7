use Rattle.std.proofs.Common.{refl}
use Rattle.brl_pairs.specs.Seed.{folded}
use Rattle.brl_pairs.proofs.seed.fold.Goals as goal

pub returns-clause-value : goal.returns-clause-value
unfolding folded
returns-clause-value c = refl
