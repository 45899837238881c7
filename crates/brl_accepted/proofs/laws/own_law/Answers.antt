use Rattle.std.proofs.Common.{◌≡◌, ◌∙◌, ◌<◌, Some, arith, get_or, length, map, refl, rules, sym}
use Rattle.std.proofs.lemmas.List.{length-map}
use Rattle.std.proofs.lemmas.Option.{slice_get-get_or}
use Rattle.brl_lines.proofs.SpellingLemmas.{one_more}
use Rattle.brl_accepted.proofs.laws.own_law.Goals as goal

pub loop-place-preserved : goal.loop-place-preserved
loop-place-preserved c =
    let cs = map (λ entry. entry.0) c.args.table.now.characters in
    let place = c.loop-place.place in
    let x = c.char_at-read.result in
    let within : place < length cs = omega (arith, c.loop-place-test.true, c.char_count-place-end.ensures.count, length-map c.args.table.now.characters (λ entry. entry.0)) in
    let some : Some (get_or cs place x) ≡ Some x = sym (slice_get-get_or cs place x within) ∙ c.char_at-read.ensures in
    let is : x ≡ get_or cs place x = cc in
    (one_more cs place x _ _ within is (search rules) c.loop-place.invariant refl refl).1
