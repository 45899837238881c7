-- The machine of each version of certificates. A certificate of version 1 lists states of a table's
-- window machine, one of version 2 or 3 states of its machine with dues. The project's own choice.
use Rattle.std.specs.Prelude.{◌≡◌, ◌≤◌, false}
use Rattle.brl_pairs.specs.Body.{BodyView}
use Rattle.brl_states.specs.declared.cert.Cert.TheVariants.{Dues, Window, Word}
use Rattle.brl_states.specs.declared.cert.Cert.{Cert as Certificate}
use Rattle.brl_dues.specs.Steps.{dues_machine}
use Rattle.brl_states.specs.declared.dues_state.DuesState.{DuesState}
use Rattle.brl_pairs.specs.Runs.{Behaviour}
use Rattle.brl_rules.specs.TableView.{TableView}
use Rattle.brl_rules.specs.Text.{has_word_capitals}
use Rattle.brl_window.specs.Width.{start_moves}
use Rattle.brl_window.specs.Windows.{window_machine}
use Rattle.brl_states.specs.declared.window_state.WindowState.{WindowState}

-- a statement about a machine and a body holds of a certificate for a table: of the machine of its
-- version, and of what it lists
abbrev pub OfMachine : ((S : Type 0) → Behaviour S → BodyView S → Type 0) → TableView → Certificate → Type 0
OfMachine Holds t (Window body) = Holds WindowState (window_machine t) body
OfMachine Holds t (Dues body) = Holds DuesState (dues_machine t) body
OfMachine Holds t (Word body) = Holds DuesState (dues_machine t) body

-- certificates of this version are for the table: versions 1 and 2 have no field for a run of
-- capitals, so they are for tables without word capitals
abbrev pub HasVersion : TableView → Certificate → Type 0
HasVersion t (Window body) = has_word_capitals t ≡ false
HasVersion t (Dues body) = has_word_capitals t ≡ false
HasVersion t (Word body) = Unit {0}

-- the table has the machine of the certificate's version: it may be too wide for a window machine
abbrev pub HasMachine : TableView → Certificate → Type 0
HasMachine t (Window body) = start_moves t ≤ 10000
HasMachine t (Dues body) = Unit {0}
HasMachine t (Word body) = Unit {0}
