use Rattle.std.proofs.Common.{ℕ, ap, refl, subst}
use Rattle.std.specs.Fmt.{digits}
use Rattle.std.specs.Global.{Vec}
use Rattle.brl_pairs.specs.Body.{BodyView}
use Rattle.brl_states.specs.declared.cert.Cert.TheVariants.{Dues, Window, Word}
use Rattle.brl_states.specs.declared.dues_state.DuesState.{DuesState}
use Rattle.brl_states.specs.declared.window_state.WindowState.{WindowState}
use Rattle.brl_cert.specs.Dues.{dues_format}
use Rattle.brl_cert.specs.Reading.{spelling}
use Rattle.brl_cert.specs.Valid.{IsCertificate, IsDuesState, IsWindowState}
use Rattle.brl_cert.specs.Window.{window_format}
use Rattle.brl_cert.proofs.Written.{caps_free, written_back}
use Rattle.brl_cert.proofs.writing.write_cert.Goals as goal

pub returns-in-Window : goal.returns-in-Window
unfolding digits
returns-in-Window c =
    let listed = c.in-Window.listed in
    let h = written_back (λ (out : Vec ℕ). out.items) (Window listed) _ c.write_version.result c.write_version.ensures.written (ap (λ (body : BodyView WindowState). spelling (Window body)) c.body.ensures.body) c.write_version.ensures.in_range
    (λ is. subst (λ (body : BodyView WindowState). IsCertificate (Window body)) c.body.ensures.body (caps_free window_format IsWindowState (λ s. s.run) c.body.result.now is c.body.ensures.caps_free))
    (c.certificate_laws.ensures.read_back (Window listed)) in
    rw c.in-Window.is (record { spelled = h.0; read_back = h.1 })

pub returns-in-Dues : goal.returns-in-Dues
unfolding digits
returns-in-Dues c =
    let listed = c.in-Dues.listed in
    let h = written_back (λ (out : Vec ℕ). out.items) (Dues listed) _ c.write_version-in-Dues.result c.write_version-in-Dues.ensures.written (ap (λ (body : BodyView DuesState). spelling (Dues body)) c.body-in-Dues.ensures.body) c.write_version-in-Dues.ensures.in_range
    (λ is. subst (λ (body : BodyView DuesState). IsCertificate (Dues body)) c.body-in-Dues.ensures.body (caps_free dues_format IsDuesState (λ s. s.run) c.body-in-Dues.result.now is c.body-in-Dues.ensures.caps_free))
    (c.certificate_laws.ensures.read_back (Dues listed)) in
    rw c.in-Dues.is (record { spelled = h.0; read_back = h.1 })

pub returns-in-Word : goal.returns-in-Word
unfolding digits
returns-in-Word c =
    let h = written_back (λ (out : Vec ℕ). out.items) (Word c.in-Word.body) _ c.write_version-in-Word.result c.write_version-in-Word.ensures.written refl c.write_version-in-Word.ensures.in_range (λ is. is)
    (c.certificate_laws.ensures.read_back (Word c.in-Word.body)) in
    rw c.in-Word.is (record { spelled = h.0; read_back = h.1 })
