-- Internal. Contexts whose fields the derived equality of a state calls equal are equal.
use Rattle.std.specs.Prelude.{◌≡◌, ◌&&◌, Bool, true, eqb}
use Rattle.std.proofs.Math.Bool.{beq}
use Rattle.std.proofs.lemmas.Bool.Decides.{Decides-eqb}
use Rattle.std.specs.Cmp.{first_so, second_so}
use Rattle.brl_pairs.specs.SameMembers.{same_bools}
use Rattle.brl_rules.specs.declared.context.Context.{Context}

-- two contexts with equal fields are one, and the test of what follows them in a state holds
pub same_contexts : (a b : Context) (rest : Bool) → (eqb a.classes.0 b.classes.0 && (beq a.numeric b.numeric && (beq a.run b.run && rest))) ≡ true → (a ≡ b) × (rest ≡ true)
same_contexts a b rest h =
    let classes : a.classes.0 ≡ b.classes.0 = (Decides-eqb a.classes.0 b.classes.0).0 (first_so _ _ h) in
    let flags = second_so (eqb a.classes.0 b.classes.0) _ h in
    let numeric : a.numeric ≡ b.numeric = same_bools a.numeric b.numeric (first_so _ _ flags) in
    let last = second_so (beq a.numeric b.numeric) _ flags in
    let run : a.run ≡ b.run = same_bools a.run b.run (first_so _ _ last) in
    (λ i. record { classes = record { 0 = classes i }; numeric = numeric i; run = run i }, second_so (beq a.run b.run) rest last)
