-- Internal. A walk over a text, step by step.
use Rattle.std.specs.Prelude.{ℕ, ◌+◌, ◌<◌, ◌≤◌, ◌≡◌, List, ◌++◌, length}
use Rattle.brl_rules.specs.TableView.{TableView}
use Rattle.brl_rules.specs.Text.{context_at}
use Rattle.brl_forward.specs.Trace.{step_at}
use Rattle.brl_forward.specs.declared.walk.Position.{Position}
use Rattle.brl_forward.specs.declared.walk.Taken.{Taken}

-- a position of a text, with the context there
abbrev pub IsAt : TableView → List ℕ → Position → Type 0
IsAt t text at = (at.here ≡ context_at t text at.start) × (at.start ≤ length text)

-- the step at a position was taken, and its cells were appended
pub record Takes (t : TableView) (text : List ℕ) (at : Position) (old new : List ℕ) (taken : Taken) : Type 0 where
  pub within : at.start < length text
  pub rule : taken.rule ≡ (step_at t text at.start).rule
  pub before : taken.before ≡ length old
  pub signs : taken.after_signs ≡ length old + (step_at t text at.start).indicators
  pub cells : new ≡ old ++ (step_at t text at.start).cells
  pub end : taken.next.start ≡ at.start + (step_at t text at.start).length
  pub some : at.start < taken.next.start
  pub next : IsAt t text taken.next
