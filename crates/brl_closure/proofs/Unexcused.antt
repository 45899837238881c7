-- Where nothing is excused, what is missing is what is missing but for nothing.
use Rattle.std.proofs.Common.{◌≡◌, ℕ, List, [], subst₂}
use Rattle.brl_closure.specs.Excusing.{IsRefusedUpTo, MissesUnexcused}
use Rattle.brl_closure.specs.Least.{IsLeast}
use Rattle.brl_closure.specs.Refusals.{IsFirstRefusal, IsRefused, MissesSplit}
use Rattle.brl_closure.specs.declared.check.fault.AcceptFault.{AcceptFault}
use Rattle.brl_closure.specs.declared.check.fault.AcceptFault.TheVariants.{NoStart, StateMissing, SplitMissing, PairMissing, BothEnd}
use Rattle.brl_pairs.specs.Body.{BodyView}
use Rattle.brl_pairs.specs.Exchanges.{AreExcused}
use Rattle.brl_pairs.specs.Runs.{Behaviour}
use Rattle.brl_pairs.specs.declared.excused.Excused.{Excused}
use Rattle.brl_pairs.specs.declared.step.Step.{Step}
use Rattle.brl_pairs.proofs.Excusing.{nothing_excused}

same_least_of : (A B : ℕ → Type 0) → ((n : ℕ) → A n → B n) → ((n : ℕ) → B n → A n) → (least : ℕ) → IsLeast A least → IsLeast B least
same_least_of A B to from least h = record { has = to least h.has; below_all = λ n has. h.below_all n (from n has) }

module _ {S : Type 0} (m : Behaviour S) (body : BodyView S) where
  -- the first refusal is the same where the same splits are missing
  same_refusal : (A B : ℕ → ℕ → ℕ → Type 0) → ((n l g : ℕ) → A n l g → B n l g) → ((n l g : ℕ) → B n l g → A n l g) → (fault : AcceptFault) → IsFirstRefusal m body A fault → IsFirstRefusal m body B fault
  same_refusal A B to from NoStart h = h
  same_refusal A B to from (StateMissing state rule) h = h
  same_refusal A B to from (SplitMissing state lesser greater) h = (
    h.0,
    h.1,
    same_least_of _ _ (λ n gap. (gap.0, gap.1, to n gap.0 gap.1 gap.2)) (λ n gap. (gap.0, gap.1, from n gap.0 gap.1 gap.2)) state h.2,
    same_least_of _ _ (λ l gap. (gap.0, to state l gap.0 gap.1)) (λ l gap. (gap.0, from state l gap.0 gap.1)) lesser h.3,
    same_least_of _ _ (to state lesser) (from state lesser) greater h.4,
  )
  same_refusal A B to from (PairMissing pair rule) h = (h.0, h.1, (λ n l g gap. h.2 n l g (from n l g gap)), h.3, h.4)
  same_refusal A B to from (BothEnd pair) h = (h.0, h.1, (λ n l g gap. h.2 n l g (from n l g gap)), h.3, h.4)

  module _ (excused : Excused) (none_accepted : excused.accepted ≡ []) (none_exchanged : excused.exchanged ≡ []) where
    none : (x y : Step S) → AreExcused excused.exchanged excused.accepted x y → ⊥
    none x y h = nothing_excused x y (subst₂ (λ (exchanged accepted : List (ℕ × ℕ)). AreExcused exchanged accepted x y) none_exchanged none_accepted h)

    pub refused_plainly : (fault : AcceptFault) → IsRefusedUpTo m excused body fault → IsRefused m body fault
    refused_plainly fault h =
        same_refusal (MissesUnexcused m excused body) (MissesSplit m body) (λ n l g gap. gap.misses)
        (λ n l g gap. record { misses = gap; unexcused = none gap.split.longer gap.split.shorter }) fault h
