use Rattle.std.proofs.Common.{Err, ◌∙◌, List, ap, append-nil, arith, length, subst, sym, ◌++◌}
use Rattle.brl_stream.specs.Lacking.{Use}
use Rattle.brl_stream.specs.Noting.{IsNoted}
use Rattle.brl_stream.proofs.LackingLemmas.{chars-few, uses_in-text}
use Rattle.brl_stream.proofs.OutputLemmas.{made_text, not_written, passed_over}
use Rattle.brl_stream.proofs.output.write_line.Goals as goal

pub returns-in-Err-clause-written : goal.returns-in-Err-clause-written
returns-in-Err-clause-written g c =
    passed_over c.args.table.now c.args.form c.args.line.now c.make_output.new.scratch.output.items c.args.number c.args.kept.now.passes (g.W.Output.contents c.args.writer.now) c.in-Err.failure c.pass_over.result c.in-Err.ensures.made c.pass_over.ensures.passed

pub returns-in-Err-clause-cause : goal.returns-in-Err-clause-cause
returns-in-Err-clause-cause g c = λ same.
    absurd (not_written c.args.table.now c.args.form c.args.line.now c.make_output.new.scratch.output.items c.args.number c.args.kept.now.passes c.in-Err.failure c.pass_over.result c.in-Err.ensures.made c.pass_over.ensures.passed cc)

pub pass_over-requires : goal.pass_over-requires
pass_over-requires g c = λ position is.
    let few = c.requires.few in
    let text = c.in-Err.ensures.text position (ap Err is) in
    (few.0, few.1, omega (arith, few.2, ap length text, chars-few c.args.line.now))

pub returns-in-Ok-clause-noted : goal.returns-in-Ok-clause-noted
returns-in-Ok-clause-noted g c = λ uses noted.
    let defined = made_text c.args.table.now c.args.form c.args.line.now c.make_output.new.scratch.output.items c.in_default.ensures.made in
    let none = uses_in-text c.args.table.now c.args.number _ defined in
    subst (λ (us : List Use). IsNoted us c.args.kept.now.noted) (sym (ap (λ (more : List Use). uses ++ more) none ∙ append-nil uses)) noted
