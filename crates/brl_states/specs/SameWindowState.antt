-- Internal. States that the derived equality calls equal are equal.
use Rattle.std.proofs.Common.{◌≡◌, true, sym}
use Rattle.std.proofs.Math.Bool.{beq}
use Rattle.std.specs.Cmp.{first_so, second_so}
use Rattle.std.specs.Cmp.Lexicographic.{same_text}
use Rattle.brl_pairs.specs.SameMembers.{same_bools}
use Rattle.brl_states.specs.SameContext.{same_contexts}
use Rattle.brl_states.specs.WindowContext.{context_of, state_in}
use Rattle.brl_states.specs.declared.window_state.WindowState.{WindowState}
use Rattle.brl_states.specs.contracts.window_state.WindowStatePartialEq.TheImpl.{eq-value}

-- two states with equal fields are one state
pub same_states : (a b : WindowState) → eq-value.it a b ≡ true → a ≡ b
same_states a b h =
    let front = same_contexts (context_of a) (context_of b) _ h in
    let ended : a.ended ≡ b.ended = same_bools a.ended b.ended (first_so _ _ front.1) in
    let coming : a.coming ≡ b.coming = same_text a.coming b.coming (sym (second_so (beq a.ended b.ended) _ front.1)) in
    λ i. state_in (front.0 i) (ended i) (coming i)
