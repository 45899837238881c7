-- The order of clashes: the most suspicious first. The project's own choice.
use Rattle.std.specs.Prelude.{ℕ, ◌+◌, ◌==◌, if◌then◌else◌, List, length, not}
use Rattle.std.specs.List.{count_by, zip}
use Rattle.std.specs.Ordering.{nat_cmp, on, then_cmp}
use Rattle.std.specs.declared.cmp.Ordering.{Ordering}
use Rattle.brl_search.specs.declared.table_clashes.RuleClash.{RuleClash}

-- at how many places two texts have different characters, up to the end of the shorter one
abbrev pub difference : List ℕ → List ℕ → ℕ
difference left right = count_by (λ pair. not (pair.0 == pair.1)) (zip left right)

-- 0 for texts of the same length, else 1
abbrev pub unequal : List ℕ → List ℕ → ℕ
unequal left right = if length left == length right then 0 else 1

-- at how many places texts of the same length differ, and 0 for others
abbrev pub differing : List ℕ → List ℕ → ℕ
differing left right = if length left == length right then difference left right else 0

-- Texts of the same length come first, those that differ at the fewest places before others. Then
-- clashes are ordered by the characters of both texts together, fewest first, and by their rules.
abbrev pub suspicion_cmp : RuleClash → RuleClash → Ordering
suspicion_cmp =
    then_cmp (on (λ x. unequal x.clash.left x.clash.right) nat_cmp)
    (then_cmp (on (λ x. differing x.clash.left x.clash.right) nat_cmp)
    (then_cmp (on (λ x. length x.clash.left + length x.clash.right) nat_cmp)
    (then_cmp (on (λ x. x.lesser) nat_cmp) (on (λ x. x.greater) nat_cmp))))
