-- Internal. The steps of states that have been listed.
use Rattle.std.specs.Prelude.{◌≡◌, ◌⊎◌, ℕ, List, [], Some, slice_get}
use Rattle.std.specs.Global.{Vec}
use Rattle.brl_pairs.specs.Runs.{Behaviour}
use Rattle.brl_pairs.specs.declared.step.Step.{Step}
use Rattle.brl_closure.specs.declared.search.known_steps.KnownSteps.{KnownSteps}

-- these are the steps of a state, or none
abbrev pub AreStepsOf : {S : Type 0} → Behaviour S → S → List (Step S) → Type 0
AreStepsOf m s steps = (steps ≡ []) ⊎ (steps ≡ m.steps s)

-- each list has the steps of the state with its number, or none
abbrev pub AreKnown : {S : Type 0} → Behaviour S → List S → KnownSteps S → Type 0
AreKnown {S} m states known =
    (number : ℕ) (s : S) (list : Vec (Step S)) → slice_get states number ≡ Some s → slice_get known.lists.items number ≡ Some list → AreStepsOf m s list.items
