-- Rank by numbers: a rule outranks those of less weight.
use Rattle.std.proofs.Common.{ℕ, suc, ◌+◌, ◌≤◌, ◌<◌, ◌≡◌, Bool, true, false, not, ◌&&◌, cond, nat_eq, nat_lt, List, ◌∷◌, length, arith, sym, ◌∙◌, ap}
use Rattle.std.specs.Prelude.{◌||◌, AllPairs, filter, slice_index_or}
use Rattle.std.specs.List.Sorted.{ties}
use Rattle.std.proofs.lemmas.Bool.Decides.{nat_tests}
use Rattle.std.proofs.lemmas.List.Elements.{filter_agree}
use Rattle.std.proofs.lemmas.Bool.{ltb-true}
use Rattle.brl_rules.specs.declared.rule.Rule.{Rule}
use Rattle.brl_rules.specs.Places.{is_placed}
use Rattle.brl_rules.specs.Rank.{outranks, IsInRank}
use Rattle.brl_rules.proofs.Facts.{not_below, not_above, no_less}

-- twice the number of its characters, and one more where it is placed
abbrev pub weight : Rule → ℕ
weight r = length r.chars + length r.chars + cond (is_placed r.place) 1 0

by_placing : (p q : Bool) (m n : ℕ) → (nat_lt n m || (nat_eq m n && p && not q)) ≡ nat_lt (n + n + cond q 1 0) (m + m + cond p 1 0)
by_placing true true m n = grind (arith, nat_tests)
by_placing true false m n = grind (arith, nat_tests)
by_placing false true m n = grind (arith, nat_tests)
by_placing false false m n = grind (arith, nat_tests)

pub outranks-weight : (r s : Rule) → outranks r s ≡ nat_lt (weight s) (weight r)
outranks-weight r s = by_placing (is_placed r.place) (is_placed s.place) (length r.chars) (length s.chars)

-- neither of two rules outranks the other where they have the same weight
pub ties-weight : (r s : Rule) → ties outranks r s ≡ nat_eq (weight s) (weight r)
ties-weight r s =
    ap (λ b. not b && not (outranks s r)) (outranks-weight r s)
    ∙ ap (λ b. not (nat_lt (weight s) (weight r)) && not b) (outranks-weight s r)
    ∙ no_less (weight s) (weight r)

-- the rules of weight n
unfoldable pub of_weight : ℕ → List Rule → List Rule
of_weight n rules = filter (λ r. nat_eq (weight r) n) rules

pub ties-of_weight : (r : Rule) (rules : List Rule) → filter (ties outranks r) rules ≡ of_weight (weight r) rules
unfolding of_weight
ties-of_weight r rules = filter_agree (ties outranks r) (λ s. nat_eq (weight s) (weight r)) (ties-weight r) rules

-- a rule that another outranks has less weight
pub outranked-weight : (r s : Rule) → outranks r s ≡ true → weight s < weight r
outranked-weight r s h = ltb-true (weight s) (weight r) (sym (outranks-weight r s) ∙ h)

-- a rule that another doesn't outrank has no less weight
pub level-weight : (r s : Rule) → outranks r s ≡ false → weight r ≤ weight s
level-weight r s h = not_below (weight s) (weight r) (sym (outranks-weight r s) ∙ h)

pub weight-level : (r s : Rule) → weight r ≤ weight s → outranks r s ≡ false
weight-level r s h = outranks-weight r s ∙ not_above (weight s) (weight r) h

-- no rule has more weight than the one before it
abbrev pub IsByWeight : List Rule → Type 0
IsByWeight rules = AllPairs (λ r s. weight s ≤ weight r) rules

pub by_weight-tail : (r : Rule) (rules : List Rule) → IsByWeight (r ∷ rules) → IsByWeight rules
by_weight-tail r rules h i j d before within = h (suc i) (suc j) d (omega (arith, before)) (omega (arith, within))

pub rank-by_weight : (rules : List Rule) → IsInRank rules → IsByWeight rules
rank-by_weight rules h i j d before within = level-weight (slice_index_or rules j d) (slice_index_or rules i d) (h i j d before within)

pub by_weight-rank : (rules : List Rule) → IsByWeight rules → IsInRank rules
by_weight-rank rules h i j d before within = weight-level (slice_index_or rules j d) (slice_index_or rules i d) (h i j d before within)

-- a rule that another doesn't outrank has no fewer characters
pub level-length : (r s : Rule) → outranks r s ≡ false → length r.chars ≤ length s.chars
level-length r s h = by_cases (is_placed r.place) (is_placed s.place) (level-weight r s h)
  where
    by_cases : (p q : Bool) → length r.chars + length r.chars + cond p 1 0 ≤ length s.chars + length s.chars + cond q 1 0 → length r.chars ≤ length s.chars
    by_cases true true h = omega arith
    by_cases true false h = omega arith
    by_cases false true h = omega arith
    by_cases false false h = omega arith

pub longer-first : (rules : List Rule) → IsInRank rules → AllPairs (λ r s. length s.chars ≤ length r.chars) rules
longer-first rules h i j d before within = level-length (slice_index_or rules j d) (slice_index_or rules i d) (h i j d before within)
