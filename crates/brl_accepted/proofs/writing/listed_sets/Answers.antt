use Rattle.std.proofs.Common.{◌≡◌, ◌∙◌, ◌<◌, ◌≤◌, ◌++◌, List, [], ◌∷◌, ℕ, Vec, ap, arith, filter, get_or, length, map, sym}
use Rattle.std.specs.Global.{Global}
use Rattle.std.proofs.lemmas.List.{get_or-map, length-map, take_all}
use Rattle.brl_accepted.specs.Writing.{is_listed_set}
use Rattle.brl_accepted.proofs.ListLemmas.{one_more_kept}
use Rattle.brl_accepted.proofs.writing.listed_sets.Goals as goal

pub loop-set-preserved : goal.loop-set-preserved
loop-set-preserved c =
    let t = c.args.table.now in
    let place = c.loop-set.set-index in
    let sets = map (λ set. set.items) c.args.sets.now in
    let found = map (λ set. set.items) c.loop-set.found.items in
    let within : place < length sets = omega (arith, c.loop-set-test.true, length-map c.args.sets.now (λ set. set.items)) in
    let item : c.as_slice.result.now ≡ get_or sets place [] =
    c.as_slice.ensures.value ∙ ap (λ (set : Vec ℕ Global). set.items) c.set-item.is ∙ sym (get_or-map (λ set. set.items) c.args.sets.now place c.set-item.result [] c.loop-set-test.true) in
    one_more_kept (is_listed_set t c.args.listed.now) sets place [] found (map (λ set. set.items) c.push_listed.new.found.items) within c.loop-set.invariant
    (c.in_ok-push_listed.ensures ∙ ap (λ (set : List ℕ). found ++ filter (is_listed_set t c.args.listed.now) (set ∷ [])) item)

pub returns : goal.returns
returns c =
    let sets = map (λ set. set.items) c.args.sets.now in
    let all : length sets ≤ c.loop-set.set-index = omega (arith, c.loop-set-test.false, length-map c.args.sets.now (λ set. set.items)) in
    c.loop-set.invariant ∙ ap (filter (is_listed_set c.args.table.now c.args.listed.now)) (take_all c.loop-set.set-index sets all)
