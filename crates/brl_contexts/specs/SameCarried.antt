-- Internal. What is due more after steps: where the derived equality calls two of these equal, they
-- are one.
use Rattle.std.specs.Prelude.{◌≡◌, ◌&&◌, Bool, true, eqb}
use Rattle.std.proofs.lemmas.Bool.Decides.{Decides-eqb}
use Rattle.std.specs.Cmp.{first_so, second_so}
use Rattle.brl_contexts.specs.declared.carried.Carried.{Carried}

-- two with equal parts are one, where the equality of what is due keeps that
pub same_carried : {D : Type 0} (equal : D → D → Bool) → ((a b : D) → equal a b ≡ true → a ≡ b) → (x y : Carried D)
    → (eqb x.next y.next && equal x.more y.more) ≡ true → x ≡ y
same_carried equal same x y h =
    let next : x.next ≡ y.next = (Decides-eqb x.next y.next).0 (first_so _ _ h) in
    let more : x.more ≡ y.more = same x.more y.more (second_so (eqb x.next y.next) _ h) in
    λ i. record { next = next i; more = more i }
