use Rattle.std.proofs.Common.{Result, Ok, Err, List, ℕ, ◌≡◌}
use Rattle.std.specs.Prelude.{IfOk}
use Rattle.brl_cert.specs.Reading.{reading, spelling}
use Rattle.brl_cert.specs.declared.fault.CertFault.{CertFault}
use Rattle.brl_failure.specs.Failure.{Gives}
use Rattle.brl_failure.specs.declared.failure.Failure.{Failure}
use Rattle.brl_states.specs.declared.cert.Cert.{Cert as Certificate}
use Rattle.brl_cert.proofs.reading.read_cert.Goals as goal

spelled_where_read : (bytes : List ℕ) (result : Result Certificate (Failure CertFault)) → ((cert : Certificate) → reading bytes ≡ Ok cert → spelling cert ≡ bytes) → Gives (reading bytes) result
    → IfOk result (λ cert. spelling cert ≡ bytes)
spelled_where_read bytes (Ok cert) law h = law cert h
spelled_where_read bytes (Err failure) law h = tt

pub returns-clause-spelled : goal.returns-clause-spelled
returns-clause-spelled c = spelled_where_read c.args.bytes.now c.read_lines.result (c.certificate_laws.ensures.one_spelling c.args.bytes.now) c.read_lines.ensures
