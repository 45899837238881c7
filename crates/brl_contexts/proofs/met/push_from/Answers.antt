use Rattle.std.proofs.Common.{◌∙◌, ◌+◌, ◌++◌, ◌∷◌, [], ℕ, List, ap, append_assoc, arith, length, map, sym}
use Rattle.std.proofs.lemmas.List.{map-append}
use Rattle.std.specs.List.{range_with_len}
use Rattle.brl_contexts.specs.declared.met.Met.{Met}
use Rattle.brl_contexts.specs.Met.{met_at}
use Rattle.brl_contexts.proofs.Found.{below_all, counting_on}
use Rattle.brl_contexts.proofs.met.push_from.Goals as goal

pub overflow_add-form : goal.overflow_add-form
overflow_add-form c = (let less = below_all c.args.from c.args.count c.loop-after.after (length c.args.numbers.now) c.loop-after-test.true c.requires in omega (arith, less))

pub offset_bounds-numbers-from : goal.offset_bounds-numbers-from
offset_bounds-numbers-from c = (let less = below_all c.args.from c.args.count c.loop-after.after (length c.args.numbers.now) c.loop-after-test.true c.requires in omega (arith, less))

pub bounds-numbers-from : goal.bounds-numbers-from
bounds-numbers-from c = below_all c.args.from c.args.count c.loop-after.after (length c.args.numbers.now) c.loop-after-test.true c.requires

pub loop-after-preserved : goal.loop-after-preserved
loop-after-preserved c =
    let numbers = c.args.numbers.now in
    let from = c.args.from in
    let after = c.loop-after.after in
    let old = c.args.found.now.items in
    let f : ℕ → Met = met_at numbers c.args.bar in
    c.in_ok-push.ensures.items
    ∙ ap (λ (l : List Met). l ++ f (from + after) ∷ []) c.loop-after.invariant
    ∙ append_assoc old (map f (range_with_len from after)) (f (from + after) ∷ [])
    ∙ ap (λ (l : List Met). old ++ l) (sym (map-append f (range_with_len from after) ((from + after) ∷ [])) ∙ ap (map f) (sym (counting_on from after)))
