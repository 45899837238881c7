-- Internal. A character that may come next, as contracts see it.
use Rattle.std.specs.Prelude.{ℕ, List}
use Rattle.brl_rules.specs.declared.place.Cond.{Cond}
use Rattle.brl_states.specs.declared.due.Due.{Due}

-- the character, its fold, the bars of the state that begin with it, and the other characters and
-- the after-condition of each rule ranked above that begins with it
pub record LetterView : Type 0 where
  pub character : ℕ
  pub fold : ℕ
  pub bars : List Due
  pub above : List (List ℕ × Cond)
