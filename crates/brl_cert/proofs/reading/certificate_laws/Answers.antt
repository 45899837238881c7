use Rattle.brl_cert.proofs.DuesLaws.{keeps_owing, keeps_word}
use Rattle.brl_cert.proofs.DuesSound.{KeepsOrder, reads_owing, reads_word}
use Rattle.brl_cert.proofs.Found.{read_is_spelled}
use Rattle.brl_cert.proofs.Sound.{read_is_certificate}
use Rattle.brl_cert.proofs.Versions.{spelled_is_read}
use Rattle.brl_cert.proofs.reading.certificate_laws.Goals as goal

pub returns-clause-read_back : goal.returns-clause-read_back
returns-clause-read_back c = spelled_is_read c.spelled_cells_are_read.ensures (keeps_owing c.order_law.ensures.kept) (keeps_word c.order_law.ensures.kept)

pub returns-clause-one_spelling : goal.returns-clause-one_spelling
returns-clause-one_spelling c = read_is_spelled

pub returns-clause-is_certificate : goal.returns-clause-is_certificate
returns-clause-is_certificate c =
    let order : KeepsOrder = record { made = c.order_law.ensures.made; members = c.order_law.ensures.members } in
    read_is_certificate c.cells_are_read.ensures (reads_owing order) (reads_word order)
