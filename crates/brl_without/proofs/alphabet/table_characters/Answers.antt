use Rattle.std.proofs.Common.{◌∙◌, ◌++◌, ◌∷◌, [], ap, sym, take}
use Rattle.std.proofs.lemmas.List.{take_more}
use Rattle.std.proofs.lemmas.Option.{get_or_from_slice_get, slice_get_within}
use Rattle.brl_without.specs.Alphabet.{table_characters}
use Rattle.brl_without.proofs.alphabet.table_characters.Goals as goal

pub loop-number-preserved : goal.loop-number-preserved
loop-number-preserved c =
    let all = table_characters c.args.table.now in
    let n = c.loop-number.number in
    let x = c.char_at.result in
    c.in_ok-push.ensures.items ∙ ap (λ front. front ++ x ∷ []) c.loop-number.invariant
    ∙ sym (take_more all n x (slice_get_within all n x c.char_at.ensures) ∙ ap (λ y. take n all ++ y ∷ []) (get_or_from_slice_get all n x x c.char_at.ensures))
