-- Internal. States that the derived equality calls equal are equal.
use Rattle.std.proofs.Common.{◌≡◌, true}
use Rattle.brl_states.specs.DuesContext.{context_of, state_in}
use Rattle.brl_states.specs.SameContext.{same_contexts}
use Rattle.brl_states.specs.SameDues.{same_lists}
use Rattle.brl_states.specs.declared.dues_state.DuesState.{DuesState}
use Rattle.brl_states.specs.contracts.dues_state.DuesStatePartialEq.TheImpl.{eq-value}

-- two states with equal fields are one state
pub same_states : (a b : DuesState) → eq-value.it a b ≡ true → a ≡ b
same_states a b h =
    let front = same_contexts (context_of a) (context_of b) _ h in
    let dues : a.dues ≡ b.dues = same_lists a.dues b.dues front.1 in
    λ i. state_in (front.0 i) (dues i)
