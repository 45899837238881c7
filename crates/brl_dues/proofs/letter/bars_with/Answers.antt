use Rattle.std.proofs.Common.{leb, rules, refl, ◌+◌}
use Rattle.std.proofs.lemmas.List.Sorted.{IsPartitionPoint-from_clause, IsPartitionedBy-leb}
use Rattle.brl_dues.specs.Letters.{first_of}
use Rattle.brl_dues.proofs.Bars.{bars-between, dues-rise, rest-rise}
use Rattle.brl_dues.proofs.letter.bars_with.Goals as goal

pub returns-clause-bars : goal.returns-clause-bars
returns-clause-bars c =
    let dues = c.args.dues.now in
    let first = IsPartitionPoint-from_clause (λ d. leb (first_of d) c.args.character) _ _ c.partition_point.ensures.partitioned (IsPartitionedBy-leb first_of dues c.args.character (dues-rise dues c.requires)) (λ a r q k. search rules) in
    let last = IsPartitionPoint-from_clause (λ d. leb (first_of d) (c.args.character + 1)) _ _ c.partition_point-2.ensures.partitioned
    (IsPartitionedBy-leb first_of _ (c.args.character + 1) (rest-rise dues c.partition_point.result c.requires)) (λ a r q k. search rules) in
    bars-between c.args.character dues _ c.partition_point.result c.partition_point-2.result refl c.partition_point-2.ensures.bound first last
