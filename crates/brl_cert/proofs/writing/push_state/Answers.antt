use Rattle.std.specs.Prelude.{codes}
use Rattle.std.proofs.lemmas.Result.{on_ok_weaker}
use Rattle.brl_cert.proofs.Written.{then_joined}
use Rattle.brl_cert.proofs.writing.push_state.Goals as goal

pub returns-clause-written : goal.returns-clause-written
returns-clause-written g c =
    on_ok_weaker c.push_fields.result (then_joined c.args.out.now.items (codes "state") c.extend_from_slice.new.self.items c.push_fields.new.out.items (g.V.Version.form.fields c.args.state.now) c.in_ok-extend_from_slice.ensures.items) c.push_fields.ensures.written
