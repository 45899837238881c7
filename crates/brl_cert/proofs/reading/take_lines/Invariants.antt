use Rattle.std.proofs.Common.{◌≡◌, ◌+◌, drop, map}
use Rattle.brl_cert.specs.Lines.{body_of}
use Rattle.brl_cert.proofs.reading.take_lines.Given as goal

abbrev pub invariant-loop-place : goal.invariant-loop-place
invariant-loop-place g l =
    body_of g.V.Version.form (l.place + 2) l.reader (drop l.place (map (λ part. part.now) l.parts)) ≡ body_of g.V.Version.form 2 l.fn.reader (map (λ part. part.now) l.parts)
