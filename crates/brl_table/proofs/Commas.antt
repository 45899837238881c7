-- The parts of an operand around its first comma.
use Rattle.std.proofs.Common.{ℕ, suc, ◌+◌, ◌<◌, ◌≡◌, Bool, true, false, ◌||◌, cond, List, [], ◌∷◌, length, refl, arith, Option, Some, None, lit<, not, Bor, MatchOption}
use Rattle.std.specs.List.{list_any, position_or_len}
use Rattle.std.proofs.lemmas.Str.Pattern.{IsSplitOnceResult, split_once_first}
use Rattle.brl_table.specs.Items.{is_comma, parts_of}

-- a search that reaches the end of the list finds nothing
pub none_there : (p : ℕ → Bool) (xs : List ℕ) → position_or_len p xs ≡ length xs → list_any p xs ≡ false
none_there p [] h = refl
none_there p (x ∷ xs) h = cases (p x) h (none_there p xs)
  where
    cases : (b : Bool) → cond (not b) (1 + position_or_len p xs) 0 ≡ suc (length xs) → (position_or_len p xs ≡ length xs → list_any p xs ≡ false) → b || list_any p xs ≡ false
    cases true k more = cc
    cases false k more = more (omega (arith, k))

pub one_there : (p : ℕ → Bool) (xs : List ℕ) → position_or_len p xs < length xs → list_any p xs ≡ true
one_there p [] h = absurd (omega (arith, h))
one_there p (x ∷ xs) h = cases (p x) h (one_there p xs)
  where
    cases : (b : Bool) → cond (not b) (1 + position_or_len p xs) 0 < suc (length xs) → (position_or_len p xs < length xs → list_any p xs ≡ true) → b || list_any p xs ≡ true
    cases true k more = refl
    cases false k more = more (omega (arith, k))

pub parts-split : (word : List ℕ) (r : Option (Bor (List ℕ) × Bor (List ℕ))) → IsSplitOnceResult 44 word r
    → MatchOption r (parts_of word ≡ (word, word)) (λ x. parts_of word ≡ (x.0.now, x.1.now))
parts-split word None h =
    let past = split_once_first 44 word None h (lit< tt) in
    rw (none_there is_comma word past) refl
parts-split word (Some x) h =
    let (inside, front, back) = split_once_first 44 word (Some x) h (lit< tt) in
    rw (one_there is_comma word inside, front, back) refl
