-- A stable sort by the order of rank puts rules in rank.
use Rattle.std.proofs.Common.{◌≡◌, Bool, nat_lt, List, arith, subst, sym, Bor}
use Rattle.std.specs.Cmp.{IsStrictWeakOrder}
use Rattle.std.specs.Fn.{ComparesAs, Called}
use Rattle.std.specs.List.Sorted.{IsSortedBy, IsStableBy}
use Rattle.std.specs.Ordering.{is_lt}
use Rattle.std.specs.declared.cmp.Ordering.{Ordering}
use Rattle.std.proofs.lemmas.List.Sorted.{sorted_far, IsStrictWeakOrder-flip, IsStrictWeakOrder-by_number, answers_always}
use denote.Param.Members.{Mut}
use Rattle.brl_rules.specs.declared.rule.Rule.{Rule}
use Rattle.brl_rules.specs.Rank.{outranks, IsRanking}
use Rattle.brl_rules.proofs.RankWeight.{weight, outranks-weight}

by_weight : IsStrictWeakOrder (λ a b. nat_lt (weight b) (weight a))
by_weight = IsStrictWeakOrder-flip (λ a b. nat_lt (weight a) (weight b)) (IsStrictWeakOrder-by_number weight)

rank-order : IsStrictWeakOrder outranks
rank-order =
    let same : (λ (a : Rule) (b : Rule). nat_lt (weight b) (weight a)) ≡ outranks = λ i a b. sym (outranks-weight a b) i in
    subst IsStrictWeakOrder same by_weight

pub ranking_from_sort : {F : Type 0} {g : Mut F (Bor Rule × (Bor Rule × Unit {0})) Ordering} {f : F} (lines ranked : List Rule)
    → ((lt : Rule → Rule → Bool) → IsStrictWeakOrder lt → ComparesAs g lt f → IsSortedBy lt ranked)
    → ((lt : Rule → Rule → Bool) → IsStrictWeakOrder lt → ComparesAs g lt f → IsStableBy lt lines ranked)
    → ((f : F) (a : Bor Rule × (Bor Rule × Unit {0})) (r : Ordering) (f' : F) → Called g f a r f' → is_lt r ≡ outranks a.0.now a.1.0.now)
    → IsRanking lines ranked
ranking_from_sort {F} {g} {f} lines ranked sorted stable compares =
    let answers : ComparesAs g outranks f = answers_always g (λ a r. is_lt r ≡ outranks a.0.now a.1.0.now) f compares in
    record {
      higher_first = λ i j d i<j j<n. sorted_far outranks rank-order ranked (sorted outranks rank-order answers) i j d (omega arith) j<n;
      in_lines_order = stable outranks rank-order answers;
    }
