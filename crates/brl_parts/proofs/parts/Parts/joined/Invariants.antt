use Rattle.std.proofs.Common.{◌≡◌, take}
use Rattle.std.specs.List.{flat_map}
use Rattle.brl_parts.specs.Parts.{edges_of}
use Rattle.brl_parts.proofs.parts.Parts.joined.Given as goal

abbrev pub invariant-loop-number : goal.invariant-loop-number
invariant-loop-number g l = l.listed.items ≡ flat_map (edges_of l.self) (take l.number-index l.numbers)
