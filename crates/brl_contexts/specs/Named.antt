-- States and cells that edges name by their numbers. The project's own choice.
use Rattle.std.specs.Prelude.{◌≡◌, ℕ, List, Some, length, slice_get}
use Rattle.brl_contexts.specs.declared.carried.Carried.{Carried}
use Rattle.brl_contexts.specs.declared.named.Named.{Named}
use Rattle.brl_pairs.specs.Based.{Sharing}

-- what had a number has it still
abbrev pub Stays : {X : Type 0} → List X → List X → Type 0
Stays {X} old new = (number : ℕ) (x : X) → slice_get old number ≡ Some x → slice_get new number ≡ Some x

-- states and cells have the numbers that they had
pub record StillNames {S D : Type 0} (old new : Named S D) : Type 0 where
  pub states : Stays old.states new.states
  pub cells : Stays old.cells new.cells

-- ---- More due after a step

-- the state with this number is the next state with that one, with more due
pub record IsCarriedTo {S D : Type 0} (h : Sharing S D) (named : Named S D) (next : ℕ) (more : D) (number : ℕ) : Type 0 where
  pub state : S
  pub at : slice_get named.states next ≡ Some state
  pub owing : slice_get named.states number ≡ Some (h.owing state more)

-- what is kept of more that is due leads to the states whose numbers are kept
pub record AreCarried {S D : Type 0} (h : Sharing S D) (named : Named S D) : Type 0 where
  pub count : length named.owing.items ≡ length named.carried
  pub each : (place : ℕ) (own : Carried D) (number : ℕ) → slice_get named.carried place ≡ Some own → slice_get named.owing.items place ≡ Some number
      → IsCarriedTo h named own.next own.more number

-- what is right of more that is due stays right
abbrev pub StillCarries : {S D : Type 0} → Named S D → Named S D → Type 0
StillCarries {S} {D} old new = (h : Sharing S D) → AreCarried h old → AreCarried h new
