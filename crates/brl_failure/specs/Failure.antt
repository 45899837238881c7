-- How the outcome of a call that allocates follows its definition. The project's own choice.
use Rattle.std.specs.Prelude.{◌≡◌, Result, Ok, Err}
use Rattle.brl_failure.specs.declared.failure.Failure.{Failure}
use Rattle.brl_failure.specs.declared.failure.Failure.TheVariants.{Fault, Memory}

-- steps that may fail, in sequence: the first fault ends them
infixl 10 ◌>>=◌
abbrev pub ◌>>=◌ : {A B E : Type 0} → Result A E → (A → Result B E) → Result B E
(Ok x) >>= next = next x
(Err fault) >>= next = Err fault

-- something holds of the fault, if the failure is one
abbrev pub IfFault : {E : Type 0} → (E → Type 0) → Failure E → Type 0
IfFault holds (Fault fault) = holds fault
IfFault holds Memory = Unit {0}

-- the fault, if the failure is one, is that of the definition
abbrev pub IsFaultOf : {A E : Type 0} → Result A E → Failure E → Type 0
IsFaultOf want failure = IfFault (λ fault. want ≡ Err fault) failure

-- The outcome is what the definition gives, unless memory ran out. The definition may have values
-- and faults of its own: `value` and `fault` convert those of the outcome to them.
abbrev pub GivesAs : {A B E F : Type 0} → (A → B) → (E → F) → Result B F → Result A (Failure E) → Type 0
GivesAs value fault want (Ok x) = want ≡ Ok (value x)
GivesAs value fault want (Err failure) = IfFault (λ found. want ≡ Err (fault found)) failure

-- the outcome is what the definition gives, unless memory ran out
abbrev pub Gives : {A E : Type 0} → Result A E → Result A (Failure E) → Type 0
Gives want result = GivesAs (λ x. x) (λ fault. fault) want result

-- the second failure is the first one with its fault converted
abbrev pub IsChanged : {E F : Type 0} → (E → F → Type 0) → Failure E → Failure F → Type 0
IsChanged changes (Fault fault) (Fault other) = changes fault other
IsChanged changes Memory Memory = Unit {0}
IsChanged changes one other = ⊥

-- the second outcome is the first one with its fault converted, if it has one
abbrev pub IsRaised : {A E F : Type 0} → (E → F → Type 0) → Result A (Failure E) → Result A (Failure F) → Type 0
IsRaised changes (Ok x) step = step ≡ Ok x
IsRaised changes (Err failure) (Ok x) = ⊥
IsRaised changes (Err failure) (Err other) = IsChanged changes failure other
