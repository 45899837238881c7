use Rattle.std.proofs.Common.{string_bytes}
use Rattle.brl_lines.proofs.VisibleLemmas.{one_more_written}
use Rattle.brl_accepted.specs.Reading.{repeated_character}
use Rattle.brl_accepted.proofs.stale.push_repeated.Goals as goal

pub loop-character-preserved : goal.loop-character-preserved
loop-character-preserved c =
    one_more_written repeated_character c.args.characters.now c.loop-character.character-index c.character-item.result (string_bytes c.args.text.now) (string_bytes c.loop-character.text)
    (string_bytes c.push_character.new.text) c.loop-character-test.true c.character-item.is c.loop-character.invariant c.in_ok-push_character.ensures
