use Rattle.std.proofs.Common.{sym, ◌∙◌}
use Rattle.brl_pairs.proofs.Writes.{after_write-u8}
use Rattle.brl_pairs.proofs.seed.SeededHasherHasher.write_u8.Goals as goal

pub returns : goal.returns
returns c = c.add.ensures ∙ sym (after_write-u8 c.args.self.now c.args.i)
