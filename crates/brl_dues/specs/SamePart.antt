-- Internal. Parts that the derived equality calls equal are equal.
use Rattle.std.proofs.Common.{◌≡◌, true}
use Rattle.std.proofs.lemmas.Bool.Decides.{Decides-eqb}
use Rattle.std.specs.Cmp.{first_so, second_so}
use Rattle.brl_states.specs.SameDuesState.{same_states}
use Rattle.brl_states.specs.contracts.dues_state.DuesStatePartialEq.TheImpl as states
use Rattle.brl_dues.specs.declared.parts.DuesPart.{DuesPart}
use Rattle.brl_dues.specs.contracts.parts.DuesPartPartialEq.TheImpl.{eq-value}

-- two parts with equal states and equal characters are one part
pub same_parts : (a b : DuesPart) → eq-value.it a b ≡ true → a ≡ b
same_parts a b h =
    let state : a.state ≡ b.state = same_states a.state b.state (first_so _ _ h) in
    let character : a.character ≡ b.character = (Decides-eqb a.character b.character).0 (second_so (states.eq-value.it a.state b.state) _ h) in
    λ i. record { state = state i; character = character i }
