-- Steps of states that have been listed: none of them, and those of a list of states that is the
-- same.
use Rattle.std.proofs.Common.{◌≡◌, List, [], slice_get, ap, sym, ◌∙◌}
use Rattle.brl_pairs.specs.Runs.{Behaviour}
use Rattle.brl_closure.specs.KnownSteps.{AreKnown}
use Rattle.brl_closure.specs.declared.search.known_steps.KnownSteps.{KnownSteps}

-- where none are kept
pub none_known : {S : Type 0} (m : Behaviour S) (states : List S) (known : KnownSteps S) → known.lists.items ≡ [] → AreKnown m states known
none_known m states known none number s list there kept = (let empty = sym (ap (λ ls. slice_get ls number) none) ∙ kept in cc)
