use Rattle.std.proofs.Common.{◌≡◌, All, take, true}
use Rattle.std.specs.Str.{all_scalars}
use Rattle.brl_accepted.proofs.laws.sets_law.Given as goal

-- the items of the sets so far are scalar values
abbrev pub invariant-loop-set : goal.invariant-loop-set
invariant-loop-set l = All (λ set. all_scalars set.items ≡ true) (take l.set-index l.sets)
