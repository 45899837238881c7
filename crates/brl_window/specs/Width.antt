-- The number of steps from the start of a window machine: one for each text of 1 to `width`
-- characters. The limit on it is this project's own.
use Rattle.std.specs.Prelude.{ℕ, zero, suc, ◌+◌, ◌^◌, length}
use Rattle.brl_rules.specs.TableView.{TableView}
use Rattle.brl_window.specs.Windows.{width}

-- n + n^2 + .. + n^k
abbrev pub powers : ℕ → ℕ → ℕ
powers n zero = 0
powers n (suc k) = powers n k + n ^ suc k

-- the number of steps from the start
abbrev pub start_moves : TableView → ℕ
start_moves t = powers (length t.characters) (width t)
