use Rattle.std.proofs.Common.{◌≡◌, map, take}
use Rattle.brl_acting.specs.Readings.{small_by}
use Rattle.brl_acting.proofs.kept.small_letters.Given as goal

abbrev pub invariant-loop-character : goal.invariant-loop-character
invariant-loop-character l = l.letters.items ≡ map (small_by l.bases) (take l.character-index l.chars)
