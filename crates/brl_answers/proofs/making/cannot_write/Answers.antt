use Rattle.std.proofs.Common.{◌<◌, arith, ◌∙◌, ap, length, refl, take}
use Rattle.std.proofs.lemmas.List.{length-take-le, take_at}
use Rattle.brl_answers.proofs.MakingLemmas.{path_at}
use Rattle.brl_answers.proofs.making.cannot_write.Goals as goal

pub returns : goal.returns
returns c =
    let files = c.args.new.items in
    let place = c.args.place in
    let within : place < length files = omega (arith, c.args.new.ok.0) in (
      path_at files place c.remove-path.result within c.remove-path.ensures.value _ refl,
      c.truncate.ensures.items ∙ (ap (take place) c.remove-path.ensures.by_index.2 ∙ take_at (take place files) _ place (length-take-le place files (omega arith))),
    )
