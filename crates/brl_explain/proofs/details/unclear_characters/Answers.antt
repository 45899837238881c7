use Rattle.std.proofs.Common.{◌∙◌, ap, flat_map, sym, map-id}
use Rattle.std.proofs.lemmas.Iterator.{YieldsList-from_chars}
use Rattle.std.proofs.lemmas.Iterator.Consumers.{YieldsList-end}
use Rattle.brl_explain.specs.Details.{unclear_spelling}
use Rattle.brl_explain.proofs.details.unclear_characters.Goals as goal

pub returns : goal.returns
returns c =
    let t = YieldsList-end (YieldsList-from_chars c.args.line.now c.utf8.line cc) c.loop-character.yielded _ c.loop-character.yielded_by _ _ c.in-None.is c.next.ensures.steps in
    c.loop-character.invariant ∙ ap (flat_map unclear_spelling) (sym (map-id c.loop-character.yielded) ∙ t.0)
