-- Which certificates have a spelling: those in range and without repeats. The project's own choice.
use Rattle.std.specs.Prelude.{◌≡◌, ◌<◌, ◌≤◌, All, Bool, true, false, length}
use Rattle.std.specs.List.{IsDistinct}
use Rattle.brl_cells.specs.Dots.{AreCells}
use Rattle.brl_rules.specs.declared.place.Cond.{Cond}
use Rattle.brl_rules.specs.declared.place.Cond.TheVariants.{Any, Meets, Avoids}
use Rattle.brl_states.specs.Order.{AreDues}
use Rattle.brl_states.specs.declared.due.Due.{Due}
use Rattle.brl_states.specs.declared.due.Due.TheVariants.{Need, Bar}
use Rattle.brl_states.specs.declared.dues_state.DuesState.{DuesState}
use Rattle.brl_states.specs.declared.window_state.WindowState.{WindowState}
use Rattle.brl_pairs.specs.Body.{BodyView, IsPairOf, same_pair}
use Rattle.brl_cert.specs.Fields.{is_char}
use Rattle.brl_cert.specs.Lines.{StateFormat}
use Rattle.brl_cert.specs.Dues.{dues_format, word_format}
use Rattle.brl_cert.specs.Window.{window_format}
use Rattle.brl_states.specs.declared.cert.Cert.TheVariants.{Dues, Window, Word}
use Rattle.brl_states.specs.declared.cert.Cert.{Cert as Certificate}

-- a state's classes are a number of eight bits, and its characters are characters
pub record IsWindowState (s : WindowState) : Type 0 where
  pub before : s.before.0 < 256
  pub coming : All (λ c. is_char c ≡ true) s.coming

-- states and pairs without repeats, in range, and at most 4,294,967,295 of each
pub record IsBody {S : Type 0} (form : StateFormat S) (IsState : S → Type 0) (body : BodyView S) : Type 0 where
  pub each_state : All IsState body.states
  pub each_pair : All (IsPairOf (length body.states)) body.pairs
  pub each_lead : All (λ pair. AreCells pair.lead) body.pairs
  pub states_differ : IsDistinct form.same body.states
  pub pairs_differ : IsDistinct same_pair body.pairs
  pub few_states : length body.states ≤ 4294967295
  pub few_pairs : length body.pairs ≤ 4294967295

-- the set of a condition is a number of eight bits
abbrev pub HasSet : Cond → Type 0
HasSet Any = Unit {0}
HasSet (Meets set) = set.0 < 256
HasSet (Avoids set) = set.0 < 256

-- a due's set is a number of eight bits, and its characters are characters
abbrev pub IsDue : Due → Type 0
IsDue (Need cond) = HasSet cond
IsDue (Bar chars cond) = All (λ c. is_char c ≡ true) chars × HasSet cond

-- a state's classes are a number of eight bits, and its dues are in range, in order and without
-- repeats
pub record IsDuesState (s : DuesState) : Type 0 where
  pub before : s.before.0 < 256
  pub each : All IsDue s.dues
  pub kept : AreDues s.dues

-- the state is valid, and no run of capitals goes to it, where the second says whether one goes to
-- a state
abbrev pub IsCapsFree : {S : Type 0} → (S → Type 0) → (S → Bool) → S → Type 0
IsCapsFree IsState run s = IsState s × (run s ≡ false)

-- the certificate has a spelling
abbrev pub IsCertificate : Certificate → Type 0
IsCertificate (Window body) = IsBody window_format (IsCapsFree IsWindowState (λ s. s.run)) body
IsCertificate (Dues body) = IsBody dues_format (IsCapsFree IsDuesState (λ s. s.run)) body
IsCertificate (Word body) = IsBody word_format IsDuesState body
