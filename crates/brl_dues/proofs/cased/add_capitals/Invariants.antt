use Rattle.std.proofs.Common.{◌≡◌, filter, map, take}
use Rattle.brl_dues.specs.CapitalList.{capital_of}
use Rattle.brl_dues.specs.Capitals.{is_upper, letters}
use Rattle.brl_dues.proofs.cased.add_capitals.Given as goal

abbrev pub invariant-loop-number : goal.invariant-loop-number
invariant-loop-number l = l.found.items ≡ map (capital_of l.table) (filter (is_upper l.table) (take l.number (letters l.table)))
