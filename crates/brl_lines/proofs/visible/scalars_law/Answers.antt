use Rattle.std.proofs.Common.{refl, rules}
use Rattle.brl_lines.proofs.SpellingLemmas.{one_more}
use Rattle.brl_lines.proofs.visible.scalars_law.Goals as goal

pub loop-character-preserved : goal.loop-character-preserved
loop-character-preserved c =
    (one_more c.args.characters.now c.loop-character.character-index c.character-item.result _ _ c.loop-character-test.true c.character-item.is (search rules) c.loop-character.invariant refl refl).1
