use Rattle.std.proofs.Common.{Bool, ◌≡◌, OnOk, ◌≤◌, ◌<◌, ◌∙◌, ap, refl, sym, subst, arith, length, take, Ok, Err, Result, List, ℕ, length-append, length-drop, length-take, ◌∷◌, ◌++◌, []}
use Rattle.brl_stream.specs.InputBuffer.{ReadsNext}
use Rattle.brl_stream.specs.InputLines.{lines_of}
use Rattle.brl_stream.specs.Writing.{WritesOutput}
use Rattle.brl_stream.specs.Output.{output_by, HasWritten, DecidesBefore, verdict_within}
use Rattle.brl_stream.specs.declared.fault.LineFault.{LineFault}
use Rattle.brl_stream.specs.declared.fault.LineFault.TheVariants as faults
use Rattle.brl_stream.specs.declared.fault.StreamFault.{StreamFault}
use Rattle.brl_failure.specs.declared.failure.Failure.{Failure}
use Rattle.std.specs.Str.{chars}
use Rattle.std.proofs.lemmas.Result.{on_ok_weaker}
use Rattle.brl_stream.specs.Lacking.{Use, uses_from, uses_in}
use Rattle.brl_stream.specs.Noting.{IsNoted}
use Rattle.brl_stream.proofs.LackingLemmas.{chars-few, uses_from-more, uses_in-few}
use Rattle.brl_stream.proofs.OutputLemmas.{output_by-long}
use Rattle.brl_stream.proofs.StreamLemmas.{progress_start, progress_read, progress_next, line_written, tail_taken, tail_written, all_written, next_written, reads_few, decides_before, err_is, has_whole, same_line}
use Rattle.brl_stream.proofs.stream.take_lines.Goals as goal

pub loop-fault-init : goal.loop-fault-init
loop-fault-init g c =
    let none = ap length c.in-Ok.ensures.bytes in (
      [],
      record {
        held = omega (arith, none);
        counted = omega (arith, none);
        numbered = refl;
        progress = progress_start (output_by c.args.kept.now.passes c.args.table.now c.args.form) (g.R.Input.remaining c.args.reader.now) (g.W.Output.contents c.args.writer.now) c.in-Ok.buffer c.in-Ok.ensures.bytes c.in-Ok.ensures.taken c.in-Ok.ensures.longer;
        noted = c.requires;
        few = omega (arith, none);
        passes = refl;
        reads = refl;
        writes = refl;
      },
    )

pub returns-in-Err-clause-written : goal.returns-in-Err-clause-written
returns-in-Err-clause-written g c =
    let table = c.args.table.now in
    let progress = progress_read (output_by c.args.kept.now.passes c.args.table.now c.args.form) c.loop-fault.invariant.0 _ _ _ _ _ _ _ _ c.loop-fault.invariant.1.progress c.in-Err.ensures.read in
    next_written (output_by c.args.kept.now.passes c.args.table.now c.args.form) (output_by-long c.args.kept.now.passes c.args.table.now c.args.form) c.loop-fault.invariant.0 _ _ _ _ _ _ progress c.in-Err.ensures.within c.in-Err.fault c.in-Err.ensures.next

pub returns-in-Err-clause-few : goal.returns-in-Err-clause-few
returns-in-Err-clause-few g c =
    reads_few (output_by c.args.kept.now.passes c.args.table.now c.args.form) c.loop-fault.invariant.0 _ _ _ _ _ _ (progress_read (output_by c.args.kept.now.passes c.args.table.now c.args.form) c.loop-fault.invariant.0 _ _ _ _ _ _ _ _ c.loop-fault.invariant.1.progress c.in-Err.ensures.read) c.in-Err.ensures.within

pub returns-in-Err-clause-undecided : goal.returns-in-Err-clause-undecided
returns-in-Err-clause-undecided g c = λ input known n same.
    let both = same_line c.loop-fault.number n c.in-Err.fault faults.InputFailed same in
    let number = both.0 in
    let fault = both.1 in
    let output = output_by c.args.kept.now.passes c.args.table.now c.args.form in
    let before = g.R.Input.remaining c.args.reader.now in
    let after = g.R.Input.remaining c.next_line.new.reader in
    let w = c.next_line.new.buffer in
    let line-is = subst (λ (f : LineFault). ReadsNext w.bytes w.longer after (Err f)) fault c.in-Err.ensures.next in
    let progress = progress_read output c.loop-fault.invariant.0 _ _ _ _ _ _ _ _ c.loop-fault.invariant.1.progress c.in-Err.ensures.read in
    subst (λ (k : ℕ). DecidesBefore k output before after) number (decides_before output c.loop-fault.invariant.0 _ _ _ _ _ _ progress c.in-Err.ensures.within line-is.0 line-is.1 input known)

pub returns-in-Ok-End-clause-written : goal.returns-in-Ok-End-clause-written
returns-in-Ok-End-clause-written g c =
    let table = c.args.table.now in
    let progress = progress_read (output_by c.args.kept.now.passes c.args.table.now c.args.form) c.loop-fault.invariant.0 _ _ _ _ _ _ _ _ c.loop-fault.invariant.1.progress c.in-Ok-End.ensures.read in
    let line-is = rw c.in-Ok-End.field-0-is at c.in-Ok-End.ensures.next in
    all_written (output_by c.args.kept.now.passes c.args.table.now c.args.form) (output_by-long c.args.kept.now.passes c.args.table.now c.args.form) c.loop-fault.invariant.0 _ _ _ _ _ _ progress c.in-Ok-End.ensures.within line-is.0 line-is.1

pub returns-in-Ok-End-clause-few : goal.returns-in-Ok-End-clause-few
returns-in-Ok-End-clause-few g c =
    reads_few (output_by c.args.kept.now.passes c.args.table.now c.args.form) c.loop-fault.invariant.0 _ _ _ _ _ _ (progress_read (output_by c.args.kept.now.passes c.args.table.now c.args.form) c.loop-fault.invariant.0 _ _ _ _ _ _ _ _ c.loop-fault.invariant.1.progress c.in-Ok-End.ensures.read) c.in-Ok-End.ensures.within

pub returns-in-Ok-Last-clause-written : goal.returns-in-Ok-Last-clause-written
returns-in-Ok-Last-clause-written g c =
    let table = c.args.table.now in
    let len = c.in-Ok-Last.len in
    let w = c.next_line.new.buffer in
    let progress = progress_read (output_by c.args.kept.now.passes c.args.table.now c.args.form) c.loop-fault.invariant.0 _ _ _ _ _ _ _ _ c.loop-fault.invariant.1.progress c.in-Ok-Last.ensures.read in
    let line-is = rw c.in-Ok-Last.field-0-is at c.in-Ok-Last.ensures.next in
    let wrote = subst (λ (b : Bool). WritesOutput (output_by b table c.args.form (take len w.bytes)) c.loop-fault.number (g.W.Output.contents c.loop-fault.writer) (g.W.Output.contents c.write_line.new.writer) c.write_line.result) c.loop-fault.invariant.1.passes (subst (λ (bytes : List ℕ). WritesOutput (output_by c.loop-fault.kept.passes table c.args.form (take len bytes)) c.loop-fault.number (g.W.Output.contents c.loop-fault.writer) (g.W.Output.contents c.write_line.new.writer) c.write_line.result)
    c.bytes.ensures.bytes c.write_line.ensures.written) in
    tail_written (output_by c.args.kept.now.passes c.args.table.now c.args.form) (output_by-long c.args.kept.now.passes c.args.table.now c.args.form) c.loop-fault.invariant.0 _ _ _ _ _ _ _ progress c.in-Ok-Last.ensures.within len line-is.0 line-is.1 line-is.2 c.write_line.result wrote

pub returns-in-Ok-Last-clause-noted : goal.returns-in-Ok-Last-clause-noted
returns-in-Ok-Last-clause-noted g c = λ input known.
    let table = c.args.table.now in
    let w = c.next_line.new.buffer in
    let taken = c.loop-fault.invariant.0 in
    let len = c.in-Ok-Last.len in
    let line-is = rw c.in-Ok-Last.field-0-is at c.in-Ok-Last.ensures.next in
    let output = output_by c.args.kept.now.passes table c.args.form in
    let progress = progress_read output taken _ _ _ _ _ _ _ _ c.loop-fault.invariant.1.progress c.in-Ok-Last.ensures.read in
    let lines = tail_taken output (output_by-long c.args.kept.now.passes table c.args.form) taken _ _ _ _ (g.W.Output.contents c.loop-fault.writer) _ _ progress c.in-Ok-Last.ensures.within len line-is.0 line-is.1 line-is.2 input known in
    let uses = uses_from table 1 taken in
    let all : uses_from table 1 (lines_of input) ≡ uses ++ uses_in table c.loop-fault.number (chars (take len w.bytes)) =
    ap (uses_from table 1) lines ∙ uses_from-more table 1 taken (take len w.bytes) ∙ ap (λ (n : ℕ). uses ++ uses_in table n (chars (take len w.bytes))) (sym c.loop-fault.invariant.1.numbered) in
    let noted = subst (λ (bytes : List ℕ). OnOk c.write_line.result ((us : List Use) → IsNoted us c.loop-fault.kept.noted → IsNoted (us ++ uses_in table c.loop-fault.number (chars (take len bytes))) c.write_line.new.kept.noted)) c.bytes.ensures.bytes c.write_line.ensures.noted in
    on_ok_weaker c.write_line.result (λ holds. subst (λ (us : List Use). IsNoted us c.write_line.new.kept.noted) (sym all) (holds uses c.loop-fault.invariant.1.noted)) noted

pub returns-in-Ok-Last-clause-few : goal.returns-in-Ok-Last-clause-few
returns-in-Ok-Last-clause-few g c =
    reads_few (output_by c.args.kept.now.passes c.args.table.now c.args.form) c.loop-fault.invariant.0 _ _ _ _ _ _ (progress_read (output_by c.args.kept.now.passes c.args.table.now c.args.form) c.loop-fault.invariant.0 _ _ _ _ _ _ _ _ c.loop-fault.invariant.1.progress c.in-Ok-Last.ensures.read) c.in-Ok-Last.ensures.within

pub returns-in_err-write_line-in-Ok-Line-clause-written : goal.returns-in_err-write_line-in-Ok-Line-clause-written
returns-in_err-write_line-in-Ok-Line-clause-written g c = λ input known.
    let table = c.args.table.now in
    let len = c.in-Ok-Line.len in
    let w = c.next_line.new.buffer in
    let fault = c.in_err-write_line-in-Ok-Line.field-0.0 in
    let progress = progress_read (output_by c.args.kept.now.passes c.args.table.now c.args.form) c.loop-fault.invariant.0 _ _ _ _ _ _ _ _ c.loop-fault.invariant.1.progress c.in-Ok-Line.ensures.read in
    let line-is = rw c.in-Ok-Line.field-0-is at c.in-Ok-Line.ensures.next in
    let wrote = subst (λ (b : Bool). WritesOutput (output_by b table c.args.form (take len w.bytes)) c.loop-fault.number (g.W.Output.contents c.loop-fault.writer) (g.W.Output.contents c.write_line-in-Ok-Line.new.writer) (Err fault)) c.loop-fault.invariant.1.passes (subst (λ (bytes : List ℕ). WritesOutput (output_by c.loop-fault.kept.passes table c.args.form (take len bytes)) c.loop-fault.number (g.W.Output.contents c.loop-fault.writer) (g.W.Output.contents c.write_line-in-Ok-Line.new.writer) (Err fault))
    c.bytes-in-Ok-Line.ensures.bytes c.in_err-write_line-in-Ok-Line.ensures.written) in
    let same = err_is c.from_residual.result fault c.from_residual.ensures.1 in
    subst (λ (r : Result (Unit {0}) (Failure StreamFault)). HasWritten (verdict_within (output_by c.args.kept.now.passes table c.args.form) 16777216 input) (g.W.Output.contents c.args.writer.now) (g.W.Output.contents c.write_line-in-Ok-Line.new.writer) r) (sym same)
    (line_written (output_by c.args.kept.now.passes c.args.table.now c.args.form) (output_by-long c.args.kept.now.passes c.args.table.now c.args.form) c.loop-fault.invariant.0 _ _ _ _ _ _ _ progress c.in-Ok-Line.ensures.within len c.in-Ok-Line.whole line-is fault wrote input known)

pub returns-in_err-write_line-in-Ok-Line-clause-few : goal.returns-in_err-write_line-in-Ok-Line-clause-few
returns-in_err-write_line-in-Ok-Line-clause-few g c =
    reads_few (output_by c.args.kept.now.passes c.args.table.now c.args.form) c.loop-fault.invariant.0 _ _ _ _ _ _ (progress_read (output_by c.args.kept.now.passes c.args.table.now c.args.form) c.loop-fault.invariant.0 _ _ _ _ _ _ _ _ c.loop-fault.invariant.1.progress c.in-Ok-Line.ensures.read) c.in-Ok-Line.ensures.within

pub loop-fault-preserved : goal.loop-fault-preserved
loop-fault-preserved g c =
    let table = c.args.table.now in
    let len = c.in-Ok-Line.len in
    let whole = c.in-Ok-Line.whole in
    let w = c.next_line.new.buffer in
    let read = c.in-Ok-Line.ensures.read in
    let within = c.in-Ok-Line.ensures.within in
    let output = output_by c.args.kept.now.passes c.args.table.now c.args.form in
    let progress = progress_read output c.loop-fault.invariant.0 _ _ _ _ _ _ _ _ c.loop-fault.invariant.1.progress read in
    let line-is = rw c.in-Ok-Line.field-0-is at c.in-Ok-Line.ensures.next in
    let wrote = subst (λ (b : Bool). WritesOutput (output_by b table c.args.form (take len w.bytes)) c.loop-fault.number (g.W.Output.contents c.loop-fault.writer) (g.W.Output.contents c.write_line-in-Ok-Line.new.writer) (Ok tt)) c.loop-fault.invariant.1.passes (subst (λ (bytes : List ℕ). WritesOutput (output_by c.loop-fault.kept.passes table c.args.form (take len bytes)) c.loop-fault.number (g.W.Output.contents c.loop-fault.writer) (g.W.Output.contents c.write_line-in-Ok-Line.new.writer) (Ok tt))
    c.bytes-in-Ok-Line.ensures.bytes c.in_ok-write_line-in-Ok-Line.ensures.written) in
    let next = progress_next (output_by c.args.kept.now.passes c.args.table.now c.args.form) (output_by-long c.args.kept.now.passes c.args.table.now c.args.form) c.loop-fault.invariant.0 _ _ _ _ _ _ _ progress within len whole line-is wrote in
    let room : whole ≤ length w.bytes = has_whole w.bytes len whole line-is in
    let left = length-drop whole w.bytes in
    let some : 0 < whole = omega (arith, line-is.5) in
    let uses = uses_from table 1 c.loop-fault.invariant.0 in
    let line = take len w.bytes in
    let more = uses_from-more table 1 c.loop-fault.invariant.0 line in
    let there = ap (λ (n : ℕ). uses ++ uses_in table n (chars line)) (sym c.loop-fault.invariant.1.numbered) in
    let noted = subst (λ (bytes : List ℕ). IsNoted (uses ++ uses_in table c.loop-fault.number (chars (take len bytes))) c.write_line-in-Ok-Line.new.kept.noted) c.bytes-in-Ok-Line.ensures.bytes (c.in_ok-write_line-in-Ok-Line.ensures.noted uses c.loop-fault.invariant.1.noted) in
    let few_uses = length-append uses (uses_in table c.loop-fault.number (chars line)) in
    let few_in = uses_in-few table c.loop-fault.number (chars line) in
    let few_chars = chars-few line in
    let few_bytes = length-take len w.bytes in
    let all_uses = ap length (more ∙ there) in
    rw c.consume.ensures (
      c.loop-fault.invariant.0 ++ line ∷ [],
      record {
        numbered = omega (arith, c.loop-fault.invariant.1.numbered, length-append c.loop-fault.invariant.0 (line ∷ []));
        noted = subst (λ (us : List Use). IsNoted us c.write_line-in-Ok-Line.new.kept.noted) (sym (more ∙ there)) noted;
        few = omega (arith, left, room, some, line-is.6, read.counted, c.loop-fault.invariant.1.few, few_uses, few_in, few_chars, few_bytes, all_uses);
        passes = c.in_ok-write_line-in-Ok-Line.ensures.passes ∙ c.loop-fault.invariant.1.passes;
        held = omega (arith, left, within.few);
        counted = omega (arith, left, room, some, within.few, read.counted, c.loop-fault.invariant.1.counted, c.loop-fault.invariant.1.held);
        progress = next;
        reads = c.in-Ok-Line.ensures.calm ∙ c.loop-fault.invariant.1.reads;
        writes = c.in_ok-write_line-in-Ok-Line.ensures.calm ∙ c.loop-fault.invariant.1.writes;
      },
    )
