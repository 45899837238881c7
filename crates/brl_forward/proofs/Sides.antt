-- The fault of one of two texts.
use Rattle.std.proofs.Common.{ℕ, ◌≡◌, List, Err, IfErr, None, Ok, Result, subst, sym, IsErrAnd}
use Rattle.brl_failure.specs.Failure.{IfFault}
use Rattle.brl_failure.specs.declared.failure.Failure.{Failure}
use Rattle.brl_failure.specs.declared.failure.Failure.TheVariants as failures
use Rattle.brl_rules.specs.TableView.{TableView}
use Rattle.brl_forward.specs.declared.fault.ConfirmFault.{ConfirmFault}
use Rattle.brl_forward.specs.declared.fault.ConfirmFault.TheVariants.{UnknownChar}
use Rattle.brl_forward.specs.declared.fault.Side.TheVariants.{Left, Right}
use Rattle.brl_forward.specs.Faults.{first_unknown, IsFaultOfSide, IsFaultOfTwo}

-- the fault of the right text, where the left one has none
fault-of_right : (t : TableView) (left right : List ℕ) (fault : ConfirmFault) → first_unknown t left ≡ None → IsFaultOfSide Right t right fault → IsFaultOfTwo t left right fault
fault-of_right t left right (UnknownChar Left place) none is = let other = is.0 in cc
fault-of_right t left right (UnknownChar Right place) none is = (none, is.1)

failure-of_right : (t : TableView) (left right : List ℕ) (failure : Failure ConfirmFault) → first_unknown t left ≡ None → IfFault (IsFaultOfSide Right t right) failure → IfFault (IsFaultOfTwo t left right) failure
failure-of_right t left right (failures.Fault fault) none is = fault-of_right t left right fault none is
failure-of_right t left right failures.Memory none is = tt

pub err-of_right : {T : Type 0} (t : TableView) (left right : List ℕ) (result : Result T (Failure ConfirmFault)) (failure : Failure ConfirmFault) → first_unknown t left ≡ None
    → IfFault (IsFaultOfSide Right t right) failure → IsErrAnd result (λ given. given ≡ failure) → IfErr result (IfFault (IsFaultOfTwo t left right))
err-of_right t left right (Ok value) failure none is given = tt
err-of_right t left right (Err e) failure none is given = subst (IfFault (IsFaultOfTwo t left right)) (sym given) (failure-of_right t left right failure none is)
