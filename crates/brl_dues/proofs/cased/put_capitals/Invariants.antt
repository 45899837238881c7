use Rattle.std.proofs.Common.{◌≡◌, take}
use Rattle.std.specs.List.{flat_map}
use Rattle.brl_dues.specs.CapitalList.{put_at}
use Rattle.brl_dues.proofs.cased.put_capitals.Given as goal

abbrev pub invariant-loop-capital : goal.invariant-loop-capital
invariant-loop-capital l = l.found.items ≡ flat_map (put_at l.fold l.texts) (take l.capital-index l.capitals)
