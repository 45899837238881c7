-- How contracts see a clash.
use Rattle.std.specs.Prelude.{ℕ, List}

-- two texts and their cells
pub record ClashView : Type 0 where
  pub left : List ℕ
  pub right : List ℕ
  pub cells : List ℕ
