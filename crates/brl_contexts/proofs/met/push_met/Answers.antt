use Rattle.std.proofs.Common.{◌<◌, length}
use Rattle.std.specs.List.{range_with_len}
use Rattle.brl_contexts.proofs.Found.{of_last}
use Rattle.brl_contexts.proofs.met.push_met.Goals as goal

pub push_from-requires : goal.push_from-requires
push_from-requires c = of_last (λ place. place < length c.args.numbers.now) c.args.around.now.shorter.items (range_with_len c.args.around.now.from c.args.around.now.count) c.requires
