use Rattle.std.proofs.Common.{◌≡◌, map, take, true}
use Rattle.std.specs.Str.{all_scalars}
use Rattle.brl_accepted.proofs.laws.own_law.Given as goal

-- the characters so far are scalar values
abbrev pub invariant-loop-place : goal.invariant-loop-place
invariant-loop-place l = all_scalars (take l.place (map (λ entry. entry.0) l.table.characters)) ≡ true
