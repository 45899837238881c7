-- A table that was loaded, as a contract sees it. The project's own choice.
use Rattle.std.specs.Prelude.{ℕ, List}
use Rattle.brl_lines.specs.Tokens.{LineView}

-- its lines that do something, in order, and the paths that were read, each once
pub record LoadedView : Type 0 where
  pub lines : List LineView
  pub paths : List (List ℕ)
