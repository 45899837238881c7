use Rattle.std.proofs.Common.{◌≡◌, ◌≢◌, ◌<◌, ℕ, List, drop}
use Rattle.brl_slips.specs.Pieces.{IsSpelling, cells_of}
use Rattle.brl_slips.proofs.slip.Question.is_spelled.Given as goal

abbrev pub invariant-loop-signs : goal.invariant-loop-signs
invariant-loop-signs l = (row : List ℕ) (signs : ℕ) → IsSpelling l.self.text.pieces.now l.self.text.chars.now row → signs < l.signs → cells_of l.self.text.pieces.now row ≢ drop signs l.self.cells.now
