use Rattle.std.proofs.Common.{sym, ◌∙◌, ap, arith}
use Rattle.brl_pairs.specs.Seed.{after_number}
use Rattle.brl_pairs.proofs.Writes.{after_write-long, after_write-short}
use Rattle.brl_pairs.proofs.seed.SeededHasherHasher.write.Goals as goal

pub returns-then-bytes-le8 : goal.returns-then-bytes-le8
returns-then-bytes-le8 c =
    c.add.ensures ∙ ap (after_number c.args.self.now) c.number_of.ensures ∙ sym (after_write-short c.args.self.now c.args.bytes.now c.if-bytes-le8.true)

pub returns : goal.returns
returns c =
    after_write-long c.args.self.now c.loop-byte.self c.args.bytes.now c.loop-byte.byte-index (omega (arith, c.if-bytes-le8.false)) c.loop-byte.invariant
    (omega (arith, c.loop-byte-test.false))
