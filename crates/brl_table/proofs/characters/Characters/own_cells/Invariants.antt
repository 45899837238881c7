use Rattle.std.proofs.Common.{◌≡◌, take, flat_map}
use Rattle.brl_table.specs.Reading.{own_cells}
use Rattle.brl_table.specs.Building.{over}
use Rattle.brl_table.proofs.characters.Characters.own_cells.Given as goal

abbrev pub invariant-loop-character : goal.invariant-loop-character
invariant-loop-character l = l.cells.items ≡ flat_map (own_cells (over l.self.infos.entries)) (take l.character-index l.chars)
