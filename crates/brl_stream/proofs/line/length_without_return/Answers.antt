use Rattle.std.proofs.Common.{arith, ◌≢◌, ◌<◌, ◌-◌, length, get_or, ◌∙◌}
use Rattle.std.proofs.Math.Seq.{take-length}
use Rattle.brl_stream.proofs.LineLemmas.{take-return, no_return}
use Rattle.brl_stream.proofs.line.length_without_return.Goals as goal
use Rattle.brl_stream.proofs.line.length_without_return.Goals.{else-len-gt0-via-then-len-gt0+else-line-len-eq13, else-len-gt0-via-else-len-gt0}

pub returns-then-line-len-eq13-clause-bytes : goal.returns-then-line-len-eq13-clause-bytes
returns-then-line-len-eq13-clause-bytes c = take-return c.args.line.now (length c.args.line.now - 1) (omega arith) c.if-line-len-eq13.true

pub returns-clause-bytes : goal.returns-clause-bytes
returns-clause-bytes c =
    let plain : 0 < length c.args.line.now → get_or c.args.line.now (length c.args.line.now - 1) 0 ≢ 13 =
    elim c.else-len-gt0.branch [ else-len-gt0-via-then-len-gt0+else-line-len-eq13 w ↦ (λ _. w.if-line-len-eq13.false) | else-len-gt0-via-else-len-gt0 w ↦ (λ h. absurd (omega arith)) ] in
    take-length c.args.line.now ∙ no_return c.args.line.now plain
