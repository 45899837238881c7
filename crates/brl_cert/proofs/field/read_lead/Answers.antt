use Rattle.std.proofs.Common.{◌≡◌, false}
use Rattle.std.specs.Prelude.{codes}
use Rattle.std.specs.Str.{bytes_eq}
use Rattle.brl_cert.proofs.Ascii.{no_text_no_cells}
use Rattle.brl_cert.proofs.field.read_lead.Goals as goal

pub returns-in_default-clause-lead : goal.returns-in_default-clause-lead
returns-in_default-clause-lead c =
    let other : bytes_eq c.args.field.now (codes "-") ≡ false = (let same = c.as_slice.ensures in let differ = c.if-eq.ensures in cc) in
    rw other (no_text_no_cells 1024 c.args.field.now c.in_default.ensures.cases.0)
