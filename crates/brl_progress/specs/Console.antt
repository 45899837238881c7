-- A stream for messages that may be a terminal.
use Rattle.std.specs.Prelude.{◌≡◌, Bool, IsFalse}

-- the stream, and whether it is a terminal
pub record ConsoleView (E : Type 0) : Type 0 where
  pub stream : E
  pub is_terminal : Bool

-- where the stream isn't a terminal, nothing is written to it
pub record IsSilent {E : Type 0} (old new : ConsoleView E) : Type 0 where
  pub same_kind : new.is_terminal ≡ old.is_terminal
  pub untouched : IsFalse old.is_terminal → new.stream ≡ old.stream
