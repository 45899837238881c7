-- Internal. What is left of carried dues, appended to those found so far.
use Rattle.std.specs.Prelude.{◌≡◌, Bool, true, List, ◌++◌}
use Rattle.std.specs.List.{list_all}
use Rattle.brl_dues.specs.declared.carry.Carried.{Carried}
use Rattle.brl_states.specs.declared.due.Due.{Due}
use Rattle.brl_dues.specs.Carry.{is_whole, lefts}

-- whether none of these is broken; where none is, what they leave is appended
pub record Adds (carried : List Carried) (old new : List Due) (whole : Bool) : Type 0 where
  pub whole_is : whole ≡ list_all is_whole carried
  pub found : whole ≡ true → new ≡ old ++ lefts carried
