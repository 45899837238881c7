-- What a caller sees of a listing that is driven in slices. These are this project's own choice.
use Rattle.std.specs.Prelude.{◌≡◌, ℕ, ◌+◌, ◌≤◌}

-- the machine, the limit, and how many steps are left at most
pub record ListingView (M : Type 0) : Type 0 where
  pub machine : M
  pub limit : ℕ
  pub steps_left : ℕ

-- a listing of this machine with this limit
pub record IsOf {M : Type 0} (machine : M) (limit : ℕ) (it : ListingView M) : Type 0 where
  pub same_machine : it.machine ≡ machine
  pub same_limit : it.limit ≡ limit

-- a listing that went on for this number of steps: at least this many fewer are left
pub record IsAfter {M : Type 0} (steps : ℕ) (old new : ListingView M) : Type 0 where
  pub same_listing : IsOf old.machine old.limit new
  pub fewer : new.steps_left + steps ≤ old.steps_left
