use Rattle.std.proofs.lemmas.List.Elements.{All-weaker}
use Rattle.std.proofs.Common.{◌≡◌, false}
use Rattle.brl_states.specs.declared.dues_state.DuesState.{DuesState}
use Rattle.brl_states.specs.declared.window_state.WindowState.{WindowState}
use Rattle.brl_cert.specs.Dues.{dues_format}
use Rattle.brl_cert.specs.Valid.{IsDuesState, IsCapsFree, IsWindowState}
use Rattle.brl_cert.specs.Window.{window_format}
use Rattle.brl_cert.proofs.DuesSound.{reads_owing}
use Rattle.brl_cert.proofs.Sound.{reads_windows, whole_body}
use Rattle.brl_cert.proofs.reading.caps_free_laws.Goals as goal

pub returns-clause-windows : goal.returns-clause-windows
returns-clause-windows c = λ parts body read.
    All-weaker (IsCapsFree IsWindowState (λ s. s.run)) (λ (s : WindowState). s.run ≡ false) (λ s h. h.1) body.states
    (whole_body window_format (IsCapsFree IsWindowState (λ s. s.run)) c.cells_are_read.ensures reads_windows parts body read).each_state

pub returns-clause-dues : goal.returns-clause-dues
returns-clause-dues c = λ parts body read.
    All-weaker (IsCapsFree IsDuesState (λ s. s.run)) (λ (s : DuesState). s.run ≡ false) (λ s h. h.1) body.states
    (whole_body dues_format (IsCapsFree IsDuesState (λ s. s.run)) c.cells_are_read.ensures
    (reads_owing record { made = c.order_law.ensures.made; members = c.order_law.ensures.members }) parts body read).each_state
