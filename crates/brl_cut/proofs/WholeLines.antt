-- Where lines end.
use Rattle.std.proofs.Common.{◌≡◌, ℕ, zero, suc, ◌+◌, ◌<◌, ◌≤◌, Bool, true, false, nat_eq, if◌then◌else◌, List, [], ◌∷◌, length, take, drop, get_or, refl, ap, ◌∙◌, arith}
use Rattle.std.proofs.lemmas.Bool.{false_from_ne_true}
use Rattle.brl_lines.specs.Rows.{onto}
use Rattle.brl_cut.specs.Edits.{whole_lines}

-- a line feed ends the first line
pub feed-cuts : (xs : List ℕ) (n : ℕ) → n < length xs → ((k : ℕ) → 0 ≤ k → k < n → nat_eq (get_or xs k 0) 10 ≡ true → ⊥) → nat_eq (get_or xs n 0) 10 ≡ true
    → whole_lines xs ≡ take (n + 1) xs ∷ whole_lines (drop (n + 1) xs)
feed-cuts [] n h none here = absurd (omega (arith, h))
feed-cuts (b ∷ bs) zero h none here = rw here refl
feed-cuts (b ∷ bs) (suc n) h none here =
    let first : nat_eq b 10 ≡ false = false_from_ne_true (nat_eq b 10) (none 0 (omega arith) (omega arith)) in
    let more = feed-cuts bs n (omega (arith, h)) (λ k low high. none (suc k) (omega arith) (omega (arith, high))) here in
    let next : suc n + 1 ≡ suc (n + 1) = omega arith in
    rw (first, more, next) refl

-- without a line feed there is one line
pub end-cuts : (xs : List ℕ) → 0 < length xs → ((k : ℕ) → 0 ≤ k → k < length xs → nat_eq (get_or xs k 0) 10 ≡ true → ⊥) → whole_lines xs ≡ xs ∷ []
end-cuts [] h none = absurd (omega (arith, h))
end-cuts (b ∷ []) h none =
    let first : nat_eq b 10 ≡ false = false_from_ne_true (nat_eq b 10) (none 0 (omega arith) (omega arith)) in
    rw first refl
end-cuts (b ∷ c ∷ bs) h none =
    let first : nat_eq b 10 ≡ false = false_from_ne_true (nat_eq b 10) (none 0 (omega arith) (omega arith)) in
    let more = end-cuts (c ∷ bs) (omega arith) (λ k low high. none (suc k) (omega arith) (omega (arith, high))) in
    ap (λ (x : Bool). if x then (b ∷ []) ∷ whole_lines (c ∷ bs) else onto b (whole_lines (c ∷ bs))) first ∙ ap (onto b) more
