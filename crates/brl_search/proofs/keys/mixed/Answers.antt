use Rattle.std.proofs.Common.{◌+◌, ◌*◌, ◌%◌, ◌^◌, ap}
use Rattle.brl_search.specs.Smaller.{mixed}
use Rattle.brl_search.proofs.keys.mixed.Goals as goal

pub returns : goal.returns
unfolding mixed
returns c = ap (λ n. (c.args.key * 31 % 2 ^ 64 + (n + 1)) % 2 ^ 64) c.from.ensures
