use Rattle.std.proofs.Common.{◌≡◌, flat_map, take}
use Rattle.brl_slips.specs.Twins.{own_cells}
use Rattle.brl_slips.proofs.lexicon.own_cells.Given as goal

abbrev pub invariant-loop-character : goal.invariant-loop-character
invariant-loop-character l = l.cells.items ≡ flat_map (own_cells l.alphabet) (take l.character-index l.chars)
