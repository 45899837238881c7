-- The states of certificates of version 1, as fields. The project's own choice.
use Rattle.std.specs.Prelude.{ℕ, false, List, [], ◌∷◌, Option, Some, None}
use Rattle.brl_states.specs.declared.window_state.WindowState.{WindowState}
use Rattle.brl_states.specs.contracts.window_state.WindowStatePartialEq.TheImpl.{eq-value}
use Rattle.brl_states.specs.WindowContext.{state_in}
use Rattle.brl_cert.specs.Fields.{◌>>=◌, number, flag, chars, lenient_context}
use Rattle.brl_cert.specs.Lines.{StateFormat}

-- the fields of a window state
abbrev pub window_fields : WindowState → List (List ℕ)
window_fields s = (number 255).spell s.before.0 ∷ flag.spell s.numeric ∷ flag.spell s.ended ∷ chars.spell s.coming ∷ []

-- the window state of lenient fields
abbrev pub lenient_window : List (List ℕ) → Option WindowState
lenient_window (b ∷ n ∷ e ∷ c ∷ []) =
    lenient_context b n false >>= λ here. flag.lenient e >>= λ ended. chars.lenient c >>= λ coming. Some (state_in here ended coming)
lenient_window fields = None

-- a window state that no run of capitals goes to: the classes before as a number, numeric mode,
-- whether the text ends, and the next characters
abbrev pub window_format : StateFormat WindowState
window_format = record { fields = window_fields; lenient = lenient_window; same = eq-value.it }
