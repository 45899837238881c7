-- Members of a list, by their numbers from 0. The project's own choice.
use Rattle.std.specs.Prelude.{◌≡◌, ℕ, List, Some, slice_get}

module _ {T : Type 0} where
  -- the value is a member
  abbrev pub IsMember : List T → T → Type 0
  IsMember members value = (number : ℕ) × (slice_get members number ≡ Some value)

  -- no value is a member twice
  abbrev pub HaveOneNumber : List T → Type 0
  HaveOneNumber members = (i j : ℕ) (value : T) → slice_get members i ≡ Some value → slice_get members j ≡ Some value → i ≡ j
