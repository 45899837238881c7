-- Rules have one ranking only.
use Rattle.std.proofs.Common.{ℕ, zero, suc, ◌<◌, ◌≤◌, ◌≡◌, Bool, true, false, cond, ◌⊎◌, inl, inr, List, [], ◌∷◌, length, nat_eq, refl, arith, sym, ◌∙◌, ap}
use Rattle.std.specs.Prelude.{filter, slice_index_or}
use Rattle.std.proofs.lemmas.Bool.{cases_order, ne_eqb}
use Rattle.brl_rules.specs.declared.rule.Rule.{Rule}
use Rattle.brl_rules.specs.Rank.{IsRanking}
use Rattle.brl_rules.proofs.RankWeight.{weight, of_weight, ties-of_weight, IsByWeight, rank-by_weight, by_weight-tail}
use Rattle.brl_rules.proofs.Facts.{nat_eq-itself}

-- each rule has less weight than n
abbrev AreLighter : ℕ → List Rule → Type 0
AreLighter n rules = (k : ℕ) (d : Rule) → k < length rules → weight (slice_index_or rules k d) < n

none_as_heavy : (n : ℕ) (rules : List Rule) → AreLighter n rules → of_weight n rules ≡ []
unfolding of_weight
none_as_heavy n [] h = refl
none_as_heavy n (r ∷ rules) h =
    rw (ne_eqb (weight r) n (λ e. omega (arith, e, h 0 r (omega arith)))) (none_as_heavy n rules (λ k d within. h (suc k) d (omega (arith, within))))

first_counts : (r : Rule) (rules : List Rule) → of_weight (weight r) (r ∷ rules) ≡ r ∷ of_weight (weight r) rules
unfolding of_weight
first_counts r rules = rw (nat_eq-itself (weight r)) refl

-- no rule after the first of a ranking is heavier
at_most_first : (r : Rule) (rules : List Rule) → IsByWeight (r ∷ rules) → (k : ℕ) (d : Rule) → k < length (r ∷ rules) → weight (slice_index_or (r ∷ rules) k d) ≤ weight r
at_most_first r rules h zero d within = omega arith
at_most_first r rules h (suc k) d within = h 0 (suc k) d (omega arith) within

of_none : (n : ℕ) → of_weight n [] ≡ []
unfolding of_weight
of_none n = refl

no_cons : (r : Rule) (rules : List Rule) → r ∷ rules ≡ [] → ⊥
no_cons r rules e = cc

-- the first of one ranking is no heavier than the first of another of the nat_eq-itself rules
not_heavier : (x y : Rule) (xs ys : List Rule) → IsByWeight (y ∷ ys) → ((r : Rule) → of_weight (weight r) (x ∷ xs) ≡ of_weight (weight r) (y ∷ ys)) → weight y < weight x → ⊥
not_heavier x y xs ys h agree more =
    no_cons x (of_weight (weight x) xs)
    (sym (first_counts x xs) ∙ agree x
    ∙ none_as_heavy (weight x) (y ∷ ys) (λ k d within. let low = at_most_first y ys h k d within in omega (arith, low, more)))

equal_weight : (m n : ℕ) → (n < m → ⊥) → (m < n → ⊥) → m ≡ n
equal_weight m n a b = by_order (cases_order m n)
  where
    by_order : (m ≡ n) ⊎ ((m < n) ⊎ (n < m)) → m ≡ n
    by_order (inl is) = is
    by_order (inr (inl less)) = absurd (b less)
    by_order (inr (inr more)) = absurd (a more)

same_head : (x y : Rule) (xs ys : List Rule) → x ∷ xs ≡ y ∷ ys → x ≡ y
same_head x y xs ys e = cc

same_tail : (x y : Rule) (xs ys : List Rule) → x ∷ xs ≡ y ∷ ys → xs ≡ ys
same_tail x y xs ys e = cc

-- after removing the nat_eq-itself first rule, the rules of each weight still agree
tails_agree : (n : ℕ) (x : Rule) (xs ys : List Rule) → of_weight n (x ∷ xs) ≡ of_weight n (x ∷ ys) → of_weight n xs ≡ of_weight n ys
unfolding of_weight
tails_agree n x xs ys = by_test (nat_eq (weight x) n)
  where
    by_test : (b : Bool) → cond b (x ∷ filter (λ r. nat_eq (weight r) n) xs) (filter (λ r. nat_eq (weight r) n) xs)
        ≡ cond b (x ∷ filter (λ r. nat_eq (weight r) n) ys) (filter (λ r. nat_eq (weight r) n) ys)
        → filter (λ r. nat_eq (weight r) n) xs ≡ filter (λ r. nat_eq (weight r) n) ys
    by_test true e = same_tail x x _ _ e
    by_test false e = e

one_ranking : (xs ys : List Rule) → IsByWeight xs → IsByWeight ys → ((r : Rule) → of_weight (weight r) xs ≡ of_weight (weight r) ys) → xs ≡ ys
one_ranking [] [] hx hy agree = refl
one_ranking [] (y ∷ ys) hx hy agree = absurd (no_cons y (of_weight (weight y) ys) (sym (first_counts y ys) ∙ sym (agree y) ∙ of_none (weight y)))
one_ranking (x ∷ xs) [] hx hy agree = absurd (no_cons x (of_weight (weight x) xs) (sym (first_counts x xs) ∙ agree x ∙ of_none (weight x)))
one_ranking (x ∷ xs) (y ∷ ys) hx hy agree =
    let w : weight x ≡ weight y = equal_weight (weight x) (weight y) (not_heavier x y xs ys hy agree) (not_heavier y x ys xs hx (λ r. sym (agree r))) in
    let heads : x ∷ of_weight (weight x) xs ≡ y ∷ of_weight (weight y) ys =
    sym (first_counts x xs) ∙ agree x ∙ ap (λ n. of_weight n (y ∷ ys)) w ∙ first_counts y ys in
    let head : x ≡ y = same_head x y _ _ heads in
    let tails = one_ranking xs ys (by_weight-tail x xs hx) (by_weight-tail y ys hy)
    (λ r. tails_agree (weight r) x xs ys (agree r ∙ ap (λ s. of_weight (weight r) (s ∷ ys)) (sym head))) in
    ap (λ r. r ∷ xs) head ∙ ap (λ rules. y ∷ rules) tails

pub ranking-unique : (lines xs ys : List Rule) → IsRanking lines xs → IsRanking lines ys → xs ≡ ys
ranking-unique lines xs ys hx hy =
    one_ranking xs ys (rank-by_weight xs hx.higher_first) (rank-by_weight ys hy.higher_first)
    (λ r. sym (ties-of_weight r xs) ∙ hx.in_lines_order r ∙ sym (hy.in_lines_order r) ∙ ties-of_weight r ys)
