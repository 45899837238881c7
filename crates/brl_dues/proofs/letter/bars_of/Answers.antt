use Rattle.std.proofs.Common.{nat_eq, rules, subst, sym, ◌∙◌, All, IsTrue}
use Rattle.std.proofs.lemmas.List.{take_rest}
use Rattle.std.proofs.lemmas.List.Elements.{All-filter}
use Rattle.std.proofs.lemmas.List.Sorted.{IsPartitionPoint-from_clause}
use Rattle.brl_states.specs.declared.due.Due.{Due}
use Rattle.brl_states.specs.Order.{is_proper}
use Rattle.brl_dues.specs.Contexts.{is_bar}
use Rattle.brl_dues.specs.Letters.{first_of}
use Rattle.brl_dues.proofs.Bars.{needs-parted}
use Rattle.brl_dues.proofs.SharingLaws.{bars-last}
use Rattle.brl_dues.proofs.letter.bars_of.Goals as goal

pub returns-clause-bars : goal.returns-clause-bars
returns-clause-bars c =
    let dues = c.args.dues.now in
    let point = IsPartitionPoint-from_clause (λ d. nat_eq (first_of d) 0) _ _ c.partition_point.ensures.partitioned (needs-parted dues c.requires) (λ a r q k. search rules) in
    take_rest dues c.partition_point.result ∙ sym (bars-last dues c.partition_point.result c.requires c.partition_point.ensures.bound point)

pub returns-clause-proper : goal.returns-clause-proper
returns-clause-proper c =
    let dues = c.args.dues.now in
    let point = IsPartitionPoint-from_clause (λ d. nat_eq (first_of d) 0) _ _ c.partition_point.ensures.partitioned (needs-parted dues c.requires) (λ a r q k. search rules) in
    subst (All (λ (due : Due). IsTrue (is_proper due))) (bars-last dues c.partition_point.result c.requires c.partition_point.ensures.bound point ∙ sym (take_rest dues c.partition_point.result))
    (All-filter is_bar (λ (due : Due). IsTrue (is_proper due)) dues c.requires.proper)
