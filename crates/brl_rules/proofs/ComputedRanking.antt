-- Rules that `in_rank` puts in rank are a ranking.
use Rattle.std.proofs.Common.{ℕ, suc, ◌<◌, ◌≤◌, ◌≡◌, Bool, true, false, cond, List, [], ◌∷◌, refl, arith, sym, ◌∙◌, ap, nat_eq}
use Rattle.std.specs.Prelude.{filter, All}
use Rattle.std.proofs.lemmas.Bool.Decides.{nat_tests}
use Rattle.std.proofs.lemmas.List.Elements.{All-nil, All-cons, All-head, All-tail, All-weaker}
use Rattle.std.proofs.lemmas.List.Kept.{AllPairs-cons}
use Rattle.brl_rules.specs.declared.rule.Rule.{Rule}
use Rattle.brl_rules.specs.Rank.{outranks, put_in_rank, in_rank, IsRanking}
use Rattle.brl_rules.proofs.RankWeight.{weight, of_weight, ties-of_weight, outranked-weight, level-weight, IsByWeight, by_weight-rank, by_weight-tail}

-- ---- the rules of each weight are in the order of their lines

not_both : (m n k : ℕ) → n < m → nat_eq m k ≡ true → nat_eq n k ≡ false
not_both m n k h e = grind (arith, nat_tests)

-- two rules of different weight may be exchanged
swapped : (a b : Bool) (r s : Rule) (rules : List Rule) → (a ≡ true → b ≡ false)
    → cond a (s ∷ cond b (r ∷ rules) rules) (cond b (r ∷ rules) rules) ≡ cond b (r ∷ cond a (s ∷ rules) rules) (cond a (s ∷ rules) rules)
swapped true true r s rules h = let e : true ≡ false = h refl in absurd (cc)
swapped true false r s rules h = refl
swapped false b r s rules h = refl

put-of_weight : (n : ℕ) (r : Rule) (rules : List Rule) → of_weight n (put_in_rank r rules) ≡ of_weight n (r ∷ rules)
unfolding of_weight
put-of_weight n r [] = refl
put-of_weight n r (s ∷ rules) = cases (outranks s r) refl (put-of_weight n r rules)
  where
    cases : (b : Bool) → outranks s r ≡ b → of_weight n (put_in_rank r rules) ≡ of_weight n (r ∷ rules)
        → of_weight n (cond b (s ∷ put_in_rank r rules) (r ∷ s ∷ rules)) ≡ of_weight n (r ∷ s ∷ rules)
    cases false e more = refl
    cases true e more =
        ap (λ (rs : List Rule). cond (nat_eq (weight s) n) (s ∷ rs) rs) more
        ∙ swapped (nat_eq (weight s) n) (nat_eq (weight r) n) r s (filter (λ x. nat_eq (weight x) n) rules)
        (not_both (weight s) (weight r) n (outranked-weight s r e))

in_rank-of_weight : (n : ℕ) (rules : List Rule) → of_weight n (in_rank rules) ≡ of_weight n rules
unfolding of_weight
in_rank-of_weight n [] = refl
in_rank-of_weight n (r ∷ rules) =
    put-of_weight n r (in_rank rules) ∙ ap (λ (rs : List Rule). cond (nat_eq (weight r) n) (r ∷ rs) rs) (in_rank-of_weight n rules)

-- ---- no rule has more weight than the one before it

abbrev AtMost : Rule → Rule → Type 0
AtMost r s = weight s ≤ weight r

All-put : (P : Rule → Type 0) (r : Rule) (rules : List Rule) → P r → All P rules → All P (put_in_rank r rules)
All-put P r [] h all = All-cons P r [] h all
All-put P r (s ∷ rules) h all = cases (outranks s r) (All-put P r rules h (All-tail P s rules all))
  where
    cases : (b : Bool) → All P (put_in_rank r rules) → All P (cond b (s ∷ put_in_rank r rules) (r ∷ s ∷ rules))
    cases false more = All-cons P r (s ∷ rules) h all
    cases true more = All-cons P s (put_in_rank r rules) (All-head P s rules all) more

none : IsByWeight []
none i j d before within = absurd (omega arith)

-- the first rule in rank is no lighter than any after it
behind : (s : Rule) (rules : List Rule) → IsByWeight (s ∷ rules) → All (AtMost s) rules
behind s rules h k d within = h 0 (suc k) d (omega arith) (omega (arith, within))

put-IsByWeight : (r : Rule) (rules : List Rule) → IsByWeight rules → IsByWeight (put_in_rank r rules)
put-IsByWeight r [] h = AllPairs-cons AtMost r [] (All-nil (AtMost r)) none
put-IsByWeight r (s ∷ rules) h = cases (outranks s r) refl (put-IsByWeight r rules (by_weight-tail s rules h))
  where
    cases : (b : Bool) → outranks s r ≡ b → IsByWeight (put_in_rank r rules) → IsByWeight (cond b (s ∷ put_in_rank r rules) (r ∷ s ∷ rules))
    cases false e more =
        let first : weight s ≤ weight r = level-weight s r e in
        let rest : All (AtMost r) rules =
        All-weaker (AtMost s) (AtMost r) (λ q at. let low : weight q ≤ weight s = at in omega arith) rules (behind s rules h) in
        AllPairs-cons AtMost r (s ∷ rules) (All-cons (AtMost r) s rules first rest) h
    cases true e more =
        let lighter : weight r < weight s = outranked-weight s r e in
        let low : weight r ≤ weight s = omega arith in
        AllPairs-cons AtMost s (put_in_rank r rules) (All-put (AtMost s) r rules low (behind s rules h)) more

in_rank-IsByWeight : (rules : List Rule) → IsByWeight (in_rank rules)
in_rank-IsByWeight [] = none
in_rank-IsByWeight (r ∷ rules) = put-IsByWeight r (in_rank rules) (in_rank-IsByWeight rules)

pub in_rank-ranking : (rules : List Rule) → IsRanking rules (in_rank rules)
in_rank-ranking rules = record {
  higher_first = by_weight-rank (in_rank rules) (in_rank-IsByWeight rules);
  in_lines_order = λ r. ties-of_weight r (in_rank rules) ∙ in_rank-of_weight (weight r) rules ∙ sym (ties-of_weight r rules);
}
