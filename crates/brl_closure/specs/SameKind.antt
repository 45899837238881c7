-- Internal. Kinds that the derived equality calls equal are equal.
use Rattle.std.proofs.Common.{◌≡◌, ℕ, true, Option, Some, None, refl, ap}
use Rattle.std.proofs.Math.Dec.{eqb}
use Rattle.std.proofs.lemmas.Bool.Decides.{Decides-eqb}
use Rattle.std.specs.Cmp.{first_so, second_so}
use Rattle.std.specs.Option.{option_eq}
use Rattle.brl_closure.specs.declared.check.kinds.Kind.{Kind}
use Rattle.brl_closure.specs.contracts.check.kinds.KindPartialEq.TheImpl.{eq-value}

same_options : (a b : Option ℕ) → option_eq eqb a b ≡ true → a ≡ b
same_options None None h = refl
same_options None (Some b) h = cc
same_options (Some a) None h = cc
same_options (Some a) (Some b) h = ap (λ (n : ℕ). Some n) ((Decides-eqb a b).0 h)

-- two kinds with equal fields are one kind
pub same_kinds : (a b : Kind) → eq-value.it a b ≡ true → a ≡ b
same_kinds a b h =
    let rest = second_so (eqb a.next b.next) _ h in
    let next : a.next ≡ b.next = (Decides-eqb a.next b.next).0 (first_so _ _ h) in
    let cells : a.cells ≡ b.cells = (Decides-eqb a.cells b.cells).0 (first_so _ _ rest) in
    let rule : a.rule ≡ b.rule = same_options a.rule b.rule (second_so (eqb a.cells b.cells) _ rest) in
    λ i. record { next = next i; cells = cells i; rule = rule i }
