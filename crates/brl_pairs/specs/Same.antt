-- Internal. Pairs that the derived equality calls equal are equal, where the states' equality keeps
-- that.
use Rattle.std.proofs.Common.{◌≡◌, ◌&&◌, Bool, true, sym}
use Rattle.std.specs.Cmp.{first_so, second_so}
use Rattle.std.specs.Cmp.Lexicographic.{same_text}
use Rattle.std.specs.Str.{bytes_eq}
use Rattle.brl_pairs.specs.declared.step.Pair.{Pair}

-- two pairs with equal parts are one pair
pub same_pairs : {S : Type 0} (equal : S → S → Bool) → ((a b : S) → equal a b ≡ true → a ≡ b) → (p q : Pair S)
    → (equal p.ahead q.ahead && (equal p.behind q.behind && bytes_eq p.lead q.lead)) ≡ true → p ≡ q
same_pairs equal same p q h =
    let ahead : p.ahead ≡ q.ahead = same p.ahead q.ahead (first_so _ _ h) in
    let rest = second_so (equal p.ahead q.ahead) _ h in
    let behind : p.behind ≡ q.behind = same p.behind q.behind (first_so _ _ rest) in
    let lead : p.lead ≡ q.lead = same_text p.lead q.lead (sym (second_so (equal p.behind q.behind) _ rest)) in
    λ i. record { ahead = ahead i; behind = behind i; lead = lead i }
