-- The worked certificates and faults, by computing.
use Rattle.std.proofs.Common.{◌≡◌, [], ◌∷◌, Ok, refl}
use Rattle.std.specs.Prelude.{codes}
use Rattle.std.specs.Fmt.{digits}
use Rattle.brl_cert.specs.Reading.{spelling, reading}
use Rattle.brl_examples.specs.Certificates.{lines, three_states, three_lines, start_alone, faulty, AreRefused}
use Rattle.brl_examples.proofs.certificates.certificate_examples.Goals as goal

spelled : spelling three_states ≡ lines three_lines
unfolding digits
spelled = refl

read : reading (lines three_lines) ≡ Ok three_states
unfolding digits
read = refl

start_read : reading (lines (codes "BRLCERT 1" ∷ codes "state 1 0 0 -" ∷ codes "end 1 0" ∷ [])) ≡ Ok start_alone
unfolding digits
start_read = refl

refused : AreRefused faulty
unfolding digits
refused = refl

pub returns : goal.returns
returns c = record { spelled = spelled; read = read; start = start_read; refused = refused }
