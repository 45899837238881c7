-- States that no run of capitals goes to.
use Rattle.std.specs.Prelude.{◌≡◌, All, Bool, false, List}

-- no run goes to any of these states, where this says whether one goes to a state
abbrev pub AreCapsFree : {S : Type 0} → (S → Bool) → List S → Type 0
AreCapsFree run states = All (λ s. run s ≡ false) states
