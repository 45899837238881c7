-- Steps of the work: what comes after one, and how one ends it.
use Rattle.std.proofs.Common.{◌≡◌, ◌⊎◌, inl, inr, Result, Ok, Err, IsErrAnd, subst, sym}
use Rattle.std.proofs.lemmas.Result.{err_from_is_err_and}
use Rattle.brl_failure.specs.Failure.{IfFault}
use Rattle.brl_failure.specs.declared.failure.Failure.{Failure}
use Rattle.brl_failure.specs.declared.failure.Failure.TheVariants as failures
use Rattle.brl_answers.specs.Answers.{EndsAs}
use Rattle.brl_answers.specs.Status.{of_failure}
use Rattle.brl_answers.specs.declared.run_fault.RunFault.{RunFault}
use Rattle.brl_answers.specs.declared.run_fault.RunFault.TheVariants.{Memory}

-- where there is an answer, no step ended the work
pub then_ok : {A after : Type 0} {ends : RunFault → Type 0} {answer : A} → after ⊎ ((fault : RunFault) × (Ok answer ≡ Err fault) × ends fault) → after
then_ok is = elim is [
  | inl went_on ↦ went_on
  | inr (fault, e, by) ↦ absurd cc
]

-- a step ended the work by its fault
pub ended : {A after : Type 0} {ends : RunFault → Type 0} (fault : RunFault) (result : Result A RunFault) → IsErrAnd result (λ e. e ≡ fault) → ends fault → after ⊎ ((fault : RunFault) × (result ≡ Err fault) × ends fault)
ended {ends = ends} fault result is by = let (found, e, same) = err_from_is_err_and result is in inr (found, e, subst ends (sym same) by)

own_fault : {E : Type 0} (run_fault : E → RunFault) (is : E → Type 0) (own : E) → is own → (fault : RunFault) → fault ≡ run_fault own → EndsAs run_fault is fault
own_fault run_fault is own h Memory e = tt
own_fault run_fault is own h fault e = (own, h, e)

-- the failure of a step is a fault of the program
pub ends_as : {E : Type 0} (run_fault : E → RunFault) (is : E → Type 0) (failure : Failure E) (fault : RunFault) → fault ≡ of_failure run_fault failure → IfFault is failure → EndsAs run_fault is fault
ends_as run_fault is (failures.Fault own) fault e h = own_fault run_fault is own h fault e
ends_as run_fault is failures.Memory fault e h = subst (EndsAs run_fault is) (sym e) tt

-- a step ended the work by its failure
pub failed : {E A after : Type 0} {run_fault : E → RunFault} {is : E → Type 0} (failure : Failure E) (result : Result A RunFault) → IsErrAnd result (λ e. e ≡ of_failure run_fault failure) → IfFault is failure
    → after ⊎ ((fault : RunFault) × (result ≡ Err fault) × EndsAs run_fault is fault)
failed {run_fault = run_fault} {is = is} failure result by h = let (found, e, same) = err_from_is_err_and result by in inr (found, e, ends_as run_fault is failure found same h)
