use Rattle.std.proofs.Common.{◌≡◌, ◌∙◌, ◌<◌, ◌++◌, List, [], ℕ, Vec, ap, arith, get_or, length, map, sym}
use Rattle.std.specs.Global.{Global}
use Rattle.std.proofs.lemmas.List.{get_or-map, length-map}
use Rattle.brl_accepted.specs.Sets.{set_pairs}
use Rattle.brl_accepted.proofs.ListLemmas.{one_more}
use Rattle.brl_accepted.proofs.sets.pairs_of_sets.Goals as goal

pub loop-set-preserved : goal.loop-set-preserved
loop-set-preserved c =
    let t = c.args.table.now in
    let place = c.loop-set.set-index in
    let sets = map (λ set. set.items) c.args.sets.now in
    let within : place < length sets = omega (arith, c.loop-set-test.true, length-map c.args.sets.now (λ set. set.items)) in
    let item : c.set-item.result.items ≡ get_or sets place [] =
    ap (λ (set : Vec ℕ Global). set.items) c.set-item.is ∙ sym (get_or-map (λ set. set.items) c.args.sets.now place c.set-item.result [] c.loop-set-test.true) in
    one_more (set_pairs t) sets place [] [] c.loop-set.pairs.items c.push_set_pairs.new.pairs.items within c.loop-set.invariant
    (c.in_ok-push_set_pairs.ensures ∙ ap (λ (set : List ℕ). c.loop-set.pairs.items ++ set_pairs t set) (c.as_slice.ensures.value ∙ item))
