-- What a state of the dues machine knows of the characters before a position of a text.
use Rattle.std.specs.Prelude.{List}
use Rattle.brl_states.specs.declared.due.Due.{Due}
use Rattle.brl_states.specs.declared.dues_state.DuesState.{DuesState}
use Rattle.brl_rules.specs.declared.context.Context.{Context}

-- what a state knows of the characters before
abbrev pub context_of : DuesState → Context
context_of s = record { classes = s.before; numeric = s.numeric; run = s.run }

-- the state with this context that owes these dues
abbrev pub state_in : Context → List Due → DuesState
state_in here dues = record { before = here.classes; numeric = here.numeric; run = here.run; dues = dues }
