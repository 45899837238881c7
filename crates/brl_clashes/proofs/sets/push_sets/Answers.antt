use Rattle.std.proofs.Common.{string_bytes}
use Rattle.brl_clashes.specs.ClashesText.{set_line}
use Rattle.brl_clashes.proofs.Lines.{one_more}
use Rattle.brl_clashes.proofs.sets.push_sets.Goals as goal

pub loop-character-preserved : goal.loop-character-preserved
loop-character-preserved c =
    one_more (set_line c.args.table.now c.args.characters.now) c.args.openers.now c.loop-character.character-index c.character-item.result (string_bytes c.args.text.now) (string_bytes c.loop-character.text)
    (string_bytes c.push_set.new.text) c.loop-character-test.true c.character-item.is c.loop-character.invariant c.in_ok-push_set.ensures
