use Rattle.std.proofs.Common.{◌≡◌, take}
use Rattle.brl_cut.specs.Contractions.{contraction_cells}
use Rattle.brl_cut.proofs.contraction.contraction_cells.Given as goal

abbrev pub invariant-loop-character : goal.invariant-loop-character
invariant-loop-character l = l.cells.items ≡ contraction_cells l.characters.entries l.signs (take l.character-index l.chars)
