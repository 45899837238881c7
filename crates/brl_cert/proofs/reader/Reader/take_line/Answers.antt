use Rattle.brl_cert.proofs.Loops.{take_ok}
use Rattle.brl_cert.proofs.reader.Reader.take_line.Goals as goal

pub returns-clause-ok : goal.returns-clause-ok
returns-clause-ok g c =
    take_ok g.V.Version.form c.args.number c.args.self.now c.add.new.self c.args.bytes.now c.in_ok-line.line c.add.result c.in_ok-line.ensures.line c.add.ensures.ok c.add.ensures.end
