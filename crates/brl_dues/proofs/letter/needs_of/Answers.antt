use Rattle.std.proofs.Common.{nat_eq, rules}
use Rattle.std.proofs.lemmas.List.Sorted.{IsPartitionPoint-from_clause}
use Rattle.brl_dues.specs.Letters.{first_of}
use Rattle.brl_dues.proofs.Bars.{needs-first, needs-parted}
use Rattle.brl_dues.proofs.letter.needs_of.Goals as goal

pub returns : goal.returns
returns c t character =
    let dues = c.args.dues.now in
    let point = IsPartitionPoint-from_clause (λ d. nat_eq (first_of d) 0) _ _ c.partition_point.ensures.partitioned (needs-parted dues c.requires) (λ a r q k. search rules) in
    needs-first t character dues c.partition_point.result point
