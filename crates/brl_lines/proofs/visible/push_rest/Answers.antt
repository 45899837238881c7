use Rattle.std.proofs.Common.{false, string_bytes}
use Rattle.brl_lines.specs.Visible.{visible_character}
use Rattle.brl_lines.proofs.VisibleLemmas.{one_more_written}
use Rattle.brl_lines.proofs.visible.push_rest.Goals as goal

pub loop-character-preserved : goal.loop-character-preserved
loop-character-preserved c =
    one_more_written (visible_character false) c.args.characters.now c.loop-character.character-index c.character-item.result (string_bytes c.args.text.now) (string_bytes c.loop-character.text)
    (string_bytes c.push_visible.new.text) c.loop-character-test.true c.character-item.is c.loop-character.invariant c.in_ok-push_visible.ensures
