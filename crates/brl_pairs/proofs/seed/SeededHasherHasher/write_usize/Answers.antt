use Rattle.std.proofs.Common.{sym, ◌∙◌}
use Rattle.brl_pairs.proofs.Writes.{after_write-u64}
use Rattle.brl_pairs.proofs.seed.SeededHasherHasher.write_usize.Goals as goal

pub returns : goal.returns
returns c = c.add.ensures ∙ sym (after_write-u64 c.args.self.now c.args.i c.ranges.i.fits)
