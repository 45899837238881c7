-- The numbers of the kinds add up to how many pairs there are.
use Rattle.std.proofs.Common.{◌≡◌, ◌+◌, ℕ, List, [], ◌∷◌, arith, length, refl}
use Rattle.std.specs.List.{sum_by}
use Rattle.std.specs.Prelude.{cond}
use Rattle.std.proofs.lemmas.List.Sums.{sum_by-cons}
use Rattle.brl_clashes.specs.PairKinds.{is_kind}
use Rattle.brl_clashes.specs.Screen.{all_kinds, count_of}
use Rattle.brl_clashes.specs.declared.pair_kind.PairKind.{PairKind}
use Rattle.brl_clashes.specs.declared.pair_kind.PairKind.TheVariants.{Alike, Rules, Cells, Case, Several, Begins, Word, AsDigit, Number, Sets, Again, Unseen, Braille}

-- the sum of two numbers of each
sum_of_both : {X : Type 0} (f g : X → ℕ) (xs : List X) → sum_by (λ x. f x + g x) xs ≡ sum_by f xs + sum_by g xs
sum_of_both f g [] = refl
sum_of_both {X} f g (x ∷ xs) =
    let h : X → ℕ = λ y. f y + g y in
    omega (arith, sum_by-cons h x xs, sum_by-cons f x xs, sum_by-cons g x xs, sum_of_both f g xs)

-- 1 for the kind that this one is, and 0 for others
abbrev is_one : PairKind → PairKind → ℕ
is_one x kind = cond (is_kind kind x) 1 0

-- a kind is one of all
once : (x : PairKind) → sum_by (is_one x) all_kinds ≡ 1
once Alike = refl
once Rules = refl
once Cells = refl
once Case = refl
once Several = refl
once Begins = refl
once Word = refl
once AsDigit = refl
once Number = refl
once Sets = refl
once Again = refl
once Unseen = refl
once Braille = refl

-- one kind more
counted : (x : PairKind) (xs : List PairKind) (kind : PairKind) → count_of (x ∷ xs) kind ≡ is_one x kind + count_of xs kind
counted x xs kind = sum_by-cons (λ (y : PairKind). cond (is_kind kind y) 1 0) x xs

pub add_up : (kinds : List PairKind) → sum_by (count_of kinds) all_kinds ≡ length kinds
add_up [] = refl
add_up (x ∷ xs) =
    let each : sum_by (count_of (x ∷ xs)) all_kinds ≡ sum_by (λ (kind : PairKind). is_one x kind + count_of xs kind) all_kinds =
    (λ i. sum_by (λ (kind : PairKind). counted x xs kind i) all_kinds) in
    let both : sum_by (λ (kind : PairKind). is_one x kind + count_of xs kind) all_kinds ≡ sum_by (is_one x) all_kinds + sum_by (count_of xs) all_kinds =
    sum_of_both (is_one x) (count_of xs) all_kinds in
    omega (arith, each, both, once x, add_up xs)
