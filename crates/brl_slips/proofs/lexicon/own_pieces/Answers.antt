use Rattle.std.proofs.Common.{rules}
use Rattle.brl_slips.proofs.Reading.{own_more}
use Rattle.brl_slips.proofs.lexicon.own_pieces.Goals as goal

pub loop-place-preserved : goal.loop-place-preserved
loop-place-preserved c =
    own_more c.args.alphabet.now c.loop-place.place (c.unwrap.result.0.now, c.unwrap.result.1.now) c.loop-place.pieces.items c.push_own.new.pieces.items (search rules) c.loop-place.invariant c.in_ok-push_own.ensures
