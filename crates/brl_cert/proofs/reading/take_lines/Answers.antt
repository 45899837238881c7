use Rattle.std.proofs.Common.{◌+◌, ◌-◌, length, Ok, ap, ◌∙◌, arith}
use Rattle.std.proofs.lemmas.Result.{err_from_is_err_and}
use Rattle.brl_cert.proofs.Loops.{goes_on, stops, closes, lines_behind, bytes_behind, cut}
use Rattle.brl_cert.proofs.reading.take_lines.Goals as goal

pub loop-place-preserved : goal.loop-place-preserved
loop-place-preserved g c =
    goes_on g.V.Version.form (λ part. part.now) c.args.parts.now _ (c.loop-place.place + 2) c.loop-place.reader c.loop-place.place _ c.loop-place.invariant (omega arith)
    c.take_line.new.self _ _ (omega arith) (omega arith)
    (c.in_ok-take_line.ensures.ok ∙ ap (λ b. Ok (b, c.take_line.new.self)) c.if-branch.false)

pub returns-in_err-take_line-clause-fault : goal.returns-in_err-take_line-clause-fault
returns-in_err-take_line-clause-fault g c =
    let p = err_from_is_err_and c.from_residual.result c.from_residual.ensures.1 in
    rw (p.1, p.2) (stops g.V.Version.form (λ part. part.now) c.args.parts.now _ (c.loop-place.place + 2) c.loop-place.reader c.loop-place.place _ c.loop-place.invariant (omega arith) _ c.in_err-take_line.ensures.fault)

pub returns-then-place-last-clause-fault : goal.returns-then-place-last-clause-fault
returns-then-place-last-clause-fault g c =
    rw c.at.ensures (lines_behind g.V.Version.form (λ part. part.now) c.args.parts.now _ (c.loop-place.place + 2) c.loop-place.reader c.loop-place.place _ c.loop-place.invariant (omega arith)
    c.take_line.new.self
    (c.in_ok-take_line.ensures.ok ∙ ap (λ b. Ok (b, c.take_line.new.self)) c.if-branch.true) _ (omega arith))

pub returns-then-not-is_empty-clause-fault : goal.returns-then-not-is_empty-clause-fault
returns-then-not-is_empty-clause-fault g c =
    rw c.at-then-not-is_empty.ensures (bytes_behind g.V.Version.form (λ part. part.now) c.args.parts.now _ (c.loop-place.place + 2) c.loop-place.reader c.loop-place.place _ c.loop-place.invariant (omega arith)
    c.take_line.new.self
    (c.in_ok-take_line.ensures.ok ∙ ap (λ b. Ok (b, c.take_line.new.self)) c.if-branch.true) _ (length c.args.parts.now - 1) (omega arith) (omega arith) (let h = c.is_empty.ensures in let f = c.if-not-is_empty.true in cc))

pub returns-then-branch-clause-body : goal.returns-then-branch-clause-body
returns-then-branch-clause-body g c =
    closes g.V.Version.form (λ part. part.now) c.args.parts.now _ (c.loop-place.place + 2) c.loop-place.reader c.loop-place.place _ c.loop-place.invariant (omega arith)
    c.take_line.new.self
    (c.in_ok-take_line.ensures.ok ∙ ap (λ b. Ok (b, c.take_line.new.self)) c.if-branch.true) (length c.args.parts.now - 1) (omega arith) (let h = c.is_empty.ensures in let f = c.if-not-is_empty.false in cc)

pub returns-clause-fault : goal.returns-clause-fault
returns-clause-fault g c =
    rw c.at-2.ensures (cut g.V.Version.form (λ part. part.now) c.args.parts.now (c.loop-place.place + 2) c.loop-place.reader c.loop-place.place _ c.loop-place.invariant (omega arith) _ (omega arith))
