-- What a caller sees of a search that is driven in slices. These are this project's own choice.
use Rattle.std.specs.Prelude.{◌≡◌, ℕ, ◌+◌, ◌≤◌, List, Some, slice_get}
use Rattle.brl_pairs.specs.Body.{NumberPair}

-- the machine that is searched, the limit, what is found so far, and how many steps are left at
-- most
pub record SearchView (M S : Type 0) : Type 0 where
  pub machine : M
  pub limit : ℕ
  pub states : List S
  pub pairs : List NumberPair
  pub steps_left : ℕ

-- a search of this machine with this limit
pub record IsOf {M S : Type 0} (machine : M) (limit : ℕ) (it : SearchView M S) : Type 0 where
  pub same_machine : it.machine ≡ machine
  pub same_limit : it.limit ≡ limit

-- each element keeps its number
abbrev pub Stays : {X : Type 0} → List X → List X → Type 0
Stays {X} old new = (k : ℕ) (x : X) → slice_get old k ≡ Some x → slice_get new k ≡ Some x

-- a search that went on for this number of steps: what it has found stays found, and each step is
-- one less to do
pub record IsAfter {M S : Type 0} (steps : ℕ) (old new : SearchView M S) : Type 0 where
  pub same_search : IsOf old.machine old.limit new
  pub states : Stays old.states new.states
  pub pairs : Stays old.pairs new.pairs
  pub fewer : new.steps_left + steps ≤ old.steps_left
