-- The windows and the steps of a state, each characterized by itself: the machine lists exactly
-- these. The project's own choice.
use Rattle.std.specs.Prelude.{ℕ, ◌≡◌, ◌<◌, max, true, false, IsTrue, List, [], ◌++◌, length}
use Rattle.brl_pairs.specs.declared.step.Step.{Step}
use Rattle.brl_rules.specs.TableView.{TableView}
use Rattle.brl_rules.specs.Text.{is_text}
use Rattle.brl_states.specs.declared.window_state.WindowState.{WindowState}
use Rattle.brl_states.specs.WindowContext.{context_of}
use Rattle.brl_window.specs.Windows.{Window, begins_defined, width, window_step}

-- A window of a state begins with the characters that the state knows and continues with characters
-- of the table.
pub record IsWindow (t : TableView) (s : WindowState) (w : Window) : Type 0 where
  pub more : List ℕ
  pub begins : w.known ≡ s.coming ++ more
  pub defined : IsTrue (is_text t more)
  -- where the text is known to end, nothing follows
  pub no_more : s.ended ≡ true → (more ≡ []) × (w.ended ≡ true)
  -- where the text continues, enough characters are known, or as many as the state knew
  pub enough : s.ended ≡ false → w.ended ≡ false → length w.known ≡ max (length s.coming) (width t)
  -- where it ends, fewer are known
  pub fewer : s.ended ≡ false → w.ended ≡ true → length w.known < width t

-- A step from a state applies the rule that is chosen in one of its windows, where the table
-- defines the window's first character.
pub record IsStep (t : TableView) (s : WindowState) (x : Step WindowState) : Type 0 where
  pub window : Window
  pub is_window : IsWindow t s window
  pub defined : IsTrue (begins_defined t window.known)
  pub step : x ≡ window_step t (context_of s) window
