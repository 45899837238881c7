-- What a state of the window machine knows of the characters before a position of a text.
use Rattle.std.specs.Prelude.{ℕ, Bool, List}
use Rattle.brl_states.specs.declared.window_state.WindowState.{WindowState}
use Rattle.brl_rules.specs.declared.context.Context.{Context}

-- what a state knows of the characters before
abbrev pub context_of : WindowState → Context
context_of s = record { classes = s.before; numeric = s.numeric; run = s.run }

-- the state with this context that knows these next characters, and whether the text ends there
abbrev pub state_in : Context → Bool → List ℕ → WindowState
state_in here ended coming = record { before = here.classes; numeric = here.numeric; run = here.run; ended = ended; coming = coming }
