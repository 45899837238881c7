use Rattle.std.proofs.Common.{◌≡◌, ◌∙◌, ◌<◌, ◌++◌, List, [], ℕ, Vec, ap, arith, get_or, length, map, string_bytes, sym}
use Rattle.std.specs.Global.{Global}
use Rattle.std.proofs.lemmas.List.{get_or-map, length-map}
use Rattle.brl_accepted.specs.Writing.{whole_set_line}
use Rattle.brl_accepted.proofs.ListLemmas.{one_more}
use Rattle.brl_accepted.proofs.writing.sets_text.Goals as goal

pub loop-set-preserved : goal.loop-set-preserved
loop-set-preserved c =
    let place = c.loop-set.set-index in
    let before = string_bytes c.loop-set.text in
    let sets = map (λ set. set.items) c.args.sets.now in
    let within : place < length sets = omega (arith, c.loop-set-test.true, length-map c.args.sets.now (λ set. set.items)) in
    let item : c.set-item.result.items ≡ get_or sets place [] =
    ap (λ (set : Vec ℕ Global). set.items) c.set-item.is ∙ sym (get_or-map (λ set. set.items) c.args.sets.now place c.set-item.result [] c.loop-set-test.true) in
    one_more whole_set_line sets place [] [] before (string_bytes c.push_set_line.new.text) within c.loop-set.invariant
    (c.in_ok-push_set_line.ensures ∙ ap (λ (set : List ℕ). before ++ whole_set_line set) (c.as_slice.ensures.value ∙ item))
