use Rattle.std.proofs.Common.{◌∙◌, ◌≡◌, sym, ap, subst, Err}
use Rattle.std.specs.Str.{chars}
use Rattle.brl_stream.proofs.OutputLemmas.{output_of-not_utf8, translate_stops, marks_stop, output_made, gone_up, value_has}
use Rattle.brl_failure.specs.Raised.{raised_is}
use Rattle.brl_stream.specs.Output.{output_of}
use Rattle.brl_stream.specs.Writing.{IsMade}
use Rattle.brl_failure.specs.declared.failure.Failure.{Failure}
use Rattle.brl_stream.specs.declared.fault.LineFault.{LineFault}
use Rattle.brl_stream.proofs.output.make_output.Goals as goal

pub returns-in_default-clause-made : goal.returns-in_default-clause-made
returns-in_default-clause-made c = output_of-not_utf8 c.args.table.now c.args.form c.args.line.now c.requires c.in_default.ensures.cases.0

pub returns-in_err-cells-clause-made : goal.returns-in_err-cells-clause-made
returns-in_err-cells-clause-made c =
    let line = c.args.line.now in
    let text : c.as_slice.result.now ≡ chars line = c.as_slice.ensures.value ∙ c.in_ok-set_chars.ensures ∙ ap chars c.in-Ok.ensures.cases.0 in
    let output = output_of c.args.table.now c.args.form line in
    let buffer = c.args.scratch.now.output.items in
    let stops = translate_stops c.args.table.now c.args.form line c.as_slice.result.now c.requires c.in-Ok.ensures.cases.1 text c.translate.result c.raise.result c.in_err-cells.field-0.0 c.raise.ensures c.in_err-cells.was c.translate.ensures.fault buffer in
    gone_up output buffer _ c.from_residual-in_err-cells.result c.from_residual-in_err-cells.ensures.1 (λ stop same. subst (λ (f : Failure LineFault). IsMade output buffer (Err f)) (sym same) stops)

pub returns-in_err-push_marks-clause-made : goal.returns-in_err-push_marks-clause-made
returns-in_err-push_marks-clause-made c =
    let line = c.args.line.now in
    let text : c.as_slice.result.now ≡ chars line = c.as_slice.ensures.value ∙ c.in_ok-set_chars.ensures ∙ ap chars c.in-Ok.ensures.cases.0 in
    let output = output_of c.args.table.now c.args.form line in
    let buffer = c.push_marks.new.output.items in
    let stops = marks_stop c.args.table.now c.args.form line c.as_slice.result.now c.requires c.in-Ok.ensures.cases.1 text c.as_slice-2.result.now (value_has _ c.translate.result c.in_ok-cells.cells (raised_is _ c.translate.result c.raise.result c.in_ok-cells.cells c.raise.ensures c.in_ok-cells.was) c.translate.ensures.text)
    (c.as_slice-2.ensures.value ∙ value_has _ c.translate.result c.in_ok-cells.cells (raised_is _ c.translate.result c.raise.result c.in_ok-cells.cells c.raise.ensures c.in_ok-cells.was) c.translate.ensures.cells) c.clear.new.self.items c.push_marks.new.output.items buffer c.in_err-push_marks.field-0.0 c.in_err-push_marks.ensures in
    gone_up output buffer _ c.from_residual-in_err-push_marks.result c.from_residual-in_err-push_marks.ensures.1 (λ stop same. subst (λ (f : Failure LineFault). IsMade output buffer (Err f)) (sym same) stops)

pub returns-clause-made : goal.returns-clause-made
returns-clause-made c =
    let line = c.args.line.now in
    let text : c.as_slice.result.now ≡ chars line = c.as_slice.ensures.value ∙ c.in_ok-set_chars.ensures ∙ ap chars c.in-Ok.ensures.cases.0 in
    output_made c.args.table.now c.args.form line c.as_slice.result.now c.requires c.in-Ok.ensures.cases.1 text c.as_slice-2.result.now (value_has _ c.translate.result c.in_ok-cells.cells (raised_is _ c.translate.result c.raise.result c.in_ok-cells.cells c.raise.ensures c.in_ok-cells.was) c.translate.ensures.text)
    (c.as_slice-2.ensures.value ∙ value_has _ c.translate.result c.in_ok-cells.cells (raised_is _ c.translate.result c.raise.result c.in_ok-cells.cells c.raise.ensures c.in_ok-cells.was) c.translate.ensures.cells) c.clear.new.self.items c.push_marks.new.output.items c.push.new.self.items c.clear.ensures.items c.in_ok-push_marks.ensures c.in_ok-push.ensures.items
