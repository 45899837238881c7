-- Internal. Lemmas on outcomes with a converted fault, for the proofs of the crates above.
use Rattle.std.specs.Prelude.{◌≡◌, Result, Ok, Err, IfErr, IfOk}
use Rattle.std.proofs.Common.{subst}
use Rattle.brl_failure.specs.Failure.{IfFault, IsChanged, IsRaised}
use Rattle.brl_failure.specs.declared.failure.Failure.{Failure}
use Rattle.brl_failure.specs.declared.failure.Failure.TheVariants as failures

-- the converted outcome has the value of the first one
pub raised_is : {A E F : Type 0} (R : E → F → Type 0) (step : Result A (Failure E)) (raised : Result A (Failure F)) (x : A) → IsRaised R step raised → raised ≡ Ok x → step ≡ Ok x
raised_is R (Ok y) raised x is e = cc
raised_is R (Err e) (Ok y) x is f = absurd is
raised_is R (Err e) (Err d) x is f = absurd cc

-- what follows from a fact of the value
pub if_ok-raised : {A E F : Type 0} (R : E → F → Type 0) (P Q : A → Type 0) (step : Result A (Failure E)) (raised : Result A (Failure F)) → IsRaised R step raised → IfOk step P → ((x : A) → P x → Q x) → IfOk raised Q
if_ok-raised R P Q (Ok y) (Ok x) is h then = let same : y ≡ x = cc in subst Q same (then y h)
if_ok-raised R P Q (Ok y) (Err f) is h then = tt
if_ok-raised R P Q (Err e) (Ok x) is h then = absurd is
if_ok-raised R P Q (Err e) (Err f) is h then = tt

-- what follows from a fact of a failure's fault
by_fault : {E F : Type 0} (R : E → F → Type 0) (P : E → Type 0) (Q : F → Type 0) (one : Failure E) (other : Failure F) → IsChanged R one other → IfFault P one → ((x : E) (y : F) → R x y → P x → Q y) → IfFault Q other
by_fault R P Q (failures.Fault x) (failures.Fault y) is h then = then x y is h
by_fault R P Q (failures.Fault x) failures.Memory is h then = tt
by_fault R P Q failures.Memory (failures.Fault y) is h then = absurd is
by_fault R P Q failures.Memory failures.Memory is h then = tt

-- what follows from a fact of an outcome's fault
pub if_err-raised : {A E F : Type 0} (R : E → F → Type 0) (P : E → Type 0) (Q : F → Type 0) (step : Result A (Failure E)) (raised : Result A (Failure F))
    → IsRaised R step raised → IfErr step (IfFault P) → ((one : E) (other : F) → R one other → P one → Q other) → IfErr raised (IfFault Q)
if_err-raised R P Q (Ok y) (Ok x) is h then = tt
if_err-raised R P Q (Ok y) (Err f) is h then = absurd cc
if_err-raised R P Q (Err one) (Ok x) is h then = absurd is
if_err-raised R P Q (Err one) (Err other) is h then = by_fault R P Q one other is h then

-- both of two facts of a value
pub if_ok-both : {A E : Type 0} (P Q : A → Type 0) (step : Result A E) → IfOk step P → IfOk step Q → IfOk step (λ x. P x × Q x)
if_ok-both P Q (Ok x) h k = (h, k)
if_ok-both P Q (Err e) h k = tt

-- what holds of a fault, where what holds of it follows from another fact
pub if_fault-weaker : {E : Type 0} (P Q : E → Type 0) (failure : Failure E) → ((fault : E) → P fault → Q fault) → IfFault P failure → IfFault Q failure
if_fault-weaker P Q (failures.Fault fault) then h = then fault h
if_fault-weaker P Q failures.Memory then h = tt
