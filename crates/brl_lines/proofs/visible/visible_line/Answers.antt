use Rattle.std.proofs.Common.{◌∙◌, ap, string_bytes, sym, true}
use Rattle.std.proofs.lemmas.List.{map-id}
use Rattle.std.proofs.lemmas.Iterator.{YieldsList-from_chars}
use Rattle.std.proofs.lemmas.Iterator.Consumers.{YieldsList-end}
use Rattle.std.specs.Str.{encode_utf8_all}
use Rattle.brl_lines.specs.Visible.{line_from}
use Rattle.brl_lines.proofs.VisibleLemmas.{first_more, line_written}
use Rattle.brl_lines.proofs.visible.visible_line.Goals as goal

pub loop-character-preserved : goal.loop-character-preserved
loop-character-preserved c =
    let so_far = c.loop-character.invariant in
    let cs = c.loop-character.yielded in
    let x = c.in-Some.character in
    record {
      bytes = line_written cs x c.loop-character.first (string_bytes c.loop-character.text) (string_bytes c.push_of_line.new.text) so_far.bytes so_far.first c.in_ok-push_of_line.ensures;
      first = c.is_gap-first.ensures ∙ sym (first_more true cs x);
    }

pub returns : goal.returns
returns c =
    let t = YieldsList-end (YieldsList-from_chars c.args.line.now c.utf8.line cc) c.loop-character.yielded _ c.loop-character.yielded_by _ _ c.in-None.is c.next.ensures.steps in
    c.loop-character.invariant.bytes ∙ ap (λ cs. encode_utf8_all (line_from true cs)) (sym (map-id c.loop-character.yielded) ∙ t.0)
