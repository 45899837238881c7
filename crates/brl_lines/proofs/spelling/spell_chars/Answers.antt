use Rattle.std.proofs.Common.{◌≡◌, ◌∙◌, ap, sym, rules, string_bytes, take, take_all}
use Rattle.std.specs.Str.{all_scalars, encode_utf8_all}
use Rattle.brl_lines.specs.Spelling.{text_spelling}
use Rattle.brl_lines.proofs.SpellingLemmas.{one_more, spelling_back}
use Rattle.brl_lines.proofs.spelling.spell_chars.Goals as goal

pub loop-character-preserved : goal.loop-character-preserved
loop-character-preserved c =
    let so_far = c.loop-character.invariant in
    let more = one_more c.args.characters.now c.loop-character.character-index c.character-item.result _ _ c.loop-character-test.true c.character-item.is (search rules) so_far.scalars so_far.bytes c.in_ok-push_spelled.ensures in
    record {
      bytes = more.0;
      scalars = more.1;
    }

pub returns-clause-read_back : goal.returns-clause-read_back
returns-clause-read_back c =
    let text = c.args.characters.now in
    let all : take c.loop-character.character-index text ≡ text = take_all c.loop-character.character-index text c.loop-character-test.false in
    let bytes : string_bytes c.loop-character.text ≡ encode_utf8_all (text_spelling text) = c.loop-character.invariant.bytes ∙ ap (λ cs. encode_utf8_all (text_spelling cs)) all in
    spelling_back text _ (sym (ap all_scalars all) ∙ c.loop-character.invariant.scalars) bytes
