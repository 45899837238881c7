-- Closed sets have each reached state, and closed lists at least as many states as are reached.
use Rattle.std.proofs.Common.{length}
use Rattle.brl_pairs.specs.Body.{BodyView}
use Rattle.brl_pairs.specs.Pairs.{Sets}
use Rattle.brl_pairs.specs.Runs.{Behaviour, IsListed}
use Rattle.brl_pairs.specs.Sets.{sets_of}
use Rattle.brl_pairs.specs.declared.step.Step.{Step}
use Rattle.brl_closure.specs.Reached.{AtMost, Reached, SameState, start, step}
use Rattle.brl_closure.proofs.Members.{at_most_listed}
use Rattle.brl_pairs.proofs.Listing.{at-in, in-Contains}

module _ {S : Type 0} (m : Behaviour S) where
  -- sets that have the start, and the state to which each step of one of their states leads
  module _ (sets : Sets S) (has_start : sets.has_state m.start) (has_next : (s : S) (x : Step S) → sets.has_state s → IsListed (m.steps s) x → sets.has_state x.next) where
    pub state_in : {s : S} → Reached m s → sets.has_state s
    state_in start = has_start
    state_in (step {s = s} {x = x} reached listed) = has_next s x (state_in reached) listed

  pub few_reached : (body : BodyView S) → (sets_of body).has_state m.start → ((s : S) (x : Step S) → (sets_of body).has_state s → IsListed (m.steps s) x → (sets_of body).has_state x.next)
      → AtMost (length body.states) SameState (Reached m)
  few_reached body has_start has_next =
      at_most_listed SameState (Reached m) (λ x y e. e) body.states
      (λ s reached. (let at = state_in (sets_of body) has_start has_next reached in in-Contains s body.states (at-in s body.states at.0 at.1)))
