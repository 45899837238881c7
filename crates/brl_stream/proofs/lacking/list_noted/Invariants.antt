use Rattle.std.proofs.Common.{◌≡◌, flat_map, take}
use Rattle.std.specs.BTreeMap.{get_by}
use Rattle.std.specs.Ordering.{nat_cmp}
use Rattle.brl_stream.proofs.LackingLemmas.{listed}
use Rattle.brl_stream.proofs.lacking.list_noted.Given as goal

abbrev pub invariant-loop-character : goal.invariant-loop-character
invariant-loop-character l = l.list.items ≡ flat_map (λ c. listed c (get_by (nat_cmp c) l.noted.found)) (take l.character-index l.order)
