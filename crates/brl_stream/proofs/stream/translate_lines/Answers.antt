use Rattle.std.proofs.Common.{Bool, List, ap, subst, sym, ◌∙◌}
use Rattle.brl_stream.specs.Output.{DecidesBefore, HasWritten, LineResult, output_by, verdict_within}
use Rattle.brl_stream.proofs.StreamLemmas.{verdict-is}
use Rattle.brl_stream.proofs.stream.translate_lines.Goals as goal

pub returns-clause-written : goal.returns-clause-written
returns-clause-written g c = λ input known.
    subst (λ (lines : List LineResult). HasWritten lines (g.W.Output.contents c.args.writer.now) (g.W.Output.contents c.take_lines.new.writer) c.take_lines.result)
    (ap (λ (b : Bool). verdict_within (output_by b c.args.table.now c.args.form) 16777216 input) c.new-kept.ensures.passes ∙ sym (verdict-is c.args.table.now c.args.form input))
    (c.take_lines.ensures.written input known)

pub returns-clause-undecided : goal.returns-clause-undecided
returns-clause-undecided g c = λ input known n same.
    subst (λ (b : Bool). DecidesBefore n (output_by b c.args.table.now c.args.form) (g.R.Input.remaining c.args.reader.now) (g.R.Input.remaining c.take_lines.new.reader)) c.new-kept.ensures.passes
    (c.take_lines.ensures.undecided input known n same)
