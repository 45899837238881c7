use Rattle.std.proofs.Common.{◌≡◌, flat_map, take}
use Rattle.brl_slips.specs.Lines.{small_piece}
use Rattle.brl_slips.proofs.lexicon.own_pieces.Given as goal

abbrev pub invariant-loop-place : goal.invariant-loop-place
invariant-loop-place l = l.pieces.items ≡ flat_map (small_piece l.alphabet) (take l.place l.alphabet.infos.entries)
