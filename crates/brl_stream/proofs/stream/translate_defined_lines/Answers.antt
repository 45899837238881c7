use Rattle.std.proofs.Common.{Bool, Err, List, Ok, Result, ap, rules, subst, sym, ◌∙◌, ◌≡◌}
use Rattle.brl_failure.specs.declared.failure.Failure.{Failure}
use Rattle.brl_stream.specs.InputLines.{lines_of}
use Rattle.brl_stream.specs.Lacking.{uses_from}
use Rattle.brl_stream.specs.Output.{DecidesBefore, HasWritten, LineResult, output_by, verdict_of_defined, verdict_within}
use Rattle.brl_stream.specs.declared.fault.StreamFault.{StreamFault}
use Rattle.brl_stream.proofs.LackingLemmas.{lacking_of-is}
use Rattle.brl_stream.proofs.StreamLemmas.{all_then_memory, verdict_of_defined-is}
use Rattle.brl_stream.proofs.stream.translate_defined_lines.Goals as goal

pub returns-clause-written : goal.returns-clause-written
returns-clause-written g c = λ input known.
    subst (λ (lines : List LineResult). HasWritten lines (g.W.Output.contents c.args.writer.now) (g.W.Output.contents c.take_lines.new.writer) (Err c.in-Err.failure))
    (ap (λ (b : Bool). verdict_within (output_by b c.args.table.now c.args.form) 16777216 input) c.new-kept.ensures.passes ∙ sym (verdict_of_defined-is c.args.table.now c.args.form input))
    (c.in-Err.ensures.written input known)

pub returns-clause-undecided : goal.returns-clause-undecided
returns-clause-undecided g c = λ input known n same.
    subst (λ (b : Bool). DecidesBefore n (output_by b c.args.table.now c.args.form) (g.R.Input.remaining c.args.reader.now) (g.R.Input.remaining c.take_lines.new.reader)) c.new-kept.ensures.passes
    (c.in-Err.ensures.undecided input known n same)

pub returns-in-Ok-clause-written : goal.returns-in-Ok-clause-written
returns-in-Ok-clause-written g c = λ input known.
    subst (λ (lines : List LineResult). HasWritten lines (g.W.Output.contents c.args.writer.now) (g.W.Output.contents c.take_lines.new.writer) (Ok tt))
    (ap (λ (b : Bool). verdict_within (output_by b c.args.table.now c.args.form) 16777216 input) c.new-kept.ensures.passes ∙ sym (verdict_of_defined-is c.args.table.now c.args.form input))
    (c.in-Ok.ensures.written input known)

pub returns-in-Ok-clause-lacking : goal.returns-in-Ok-clause-lacking
returns-in-Ok-clause-lacking g c = λ input known.
    c.in_ok-list-in-Ok.ensures (uses_from c.args.table.now 1 (lines_of input)) (c.in-Ok.ensures.noted input known) ∙ sym (lacking_of-is c.args.table.now (lines_of input))

pub returns-in_err-list-in-Ok-clause-written : goal.returns-in_err-list-in-Ok-clause-written
returns-in_err-list-in-Ok-clause-written g c = λ input known.
    all_then_memory (verdict_of_defined c.args.table.now c.args.form input) (g.W.Output.contents c.args.writer.now) (g.W.Output.contents c.take_lines.new.writer) c.from_residual.result (search rules)
    (subst (λ (lines : List LineResult). HasWritten lines (g.W.Output.contents c.args.writer.now) (g.W.Output.contents c.take_lines.new.writer) (Ok tt))
    (ap (λ (b : Bool). verdict_within (output_by b c.args.table.now c.args.form) 16777216 input) c.new-kept.ensures.passes ∙ sym (verdict_of_defined-is c.args.table.now c.args.form input))
    (c.in-Ok.ensures.written input known))
