use Rattle.std.proofs.Common.{◌≡◌, ◌<◌, ◌-◌, ◌∷◌, ℕ, List, length, get_or}
use Rattle.brl_slips.specs.Searching.{Completes, IsKnown}
use Rattle.brl_slips.proofs.spelling.Text.+complete.Given as goal

abbrev pub decreases-complete : goal.decreases-complete
decreases-complete l = length l.self.chars.now - l.state.character

abbrev pub invariant-loop-number : goal.invariant-loop-number
invariant-loop-number l = record {
  row : l.row.items ≡ l.fn.row.items;
  known : IsKnown l.fn.self.pieces.now l.fn.self.chars.now l.fn.wanted.cells.now l.known.dead.items;
  none : (k : ℕ) → k < l.number-index → (more : List ℕ)
      → Completes l.fn.self.pieces.now l.fn.self.chars.now l.fn.wanted.cells.now l.fn.state.character l.fn.state.cell l.fn.state.misses (get_or l.number-items k 0 ∷ more) → ⊥;
}
