use Rattle.std.proofs.Common.{◌≡◌, ◌∙◌, ◌++◌, ◌∷◌, [], ap, drop, false, map, sym, take}
use Rattle.std.proofs.lemmas.List.{map-append}
use Rattle.brl_acting.specs.Tests.{item, item_view, items, items_after, keeps_not, taken}
use Rattle.brl_acting.proofs.ItemSteps.{item_so_far, negated_so_far}
use Rattle.brl_acting.proofs.items.items_of.Goals.{then-not-negated+in_ok-push, else-not-negated}
use Rattle.brl_acting.proofs.items.items_of.Goals as goal

pub loop-mark-preserved : goal.loop-mark-preserved
loop-mark-preserved c =
    let mark = c.in-Some.mark.now in
    let marks = c.in-Some.marks.now in
    let l = c.loop-mark in
    let before = map item_view l.items.items in
    let all = items c.args.test.now in
    let is = c.in-Some.ensures.cases.0 in
    let ends : keeps_not mark ≡ false = sym c.keeps_not.ensures ∙ c.if-keeps_not.false in
    let rest : c.after_first-rest.result.now ≡ drop (taken mark marks) marks = c.after_first-rest.ensures ∙ ap (λ n. drop n marks) c.taken-count.ensures in
    elim c.if-not-negated.branch [
      | then-not-negated+in_ok-push w ↦
          let text = w.first_of.ensures ∙ ap (λ n. take n marks) c.taken-count.ensures in
          let pushed = ap (λ vec. map item_view vec.items) w.items-is ∙ ap (map item_view) w.in_ok-push.ensures.items
          ∙ map-append item_view l.items.items _ ∙ ap (λ t. before ++ item mark t ∷ []) text in
          let so_far = item_so_far before all l.rest.now marks mark is ends (rw w.if-not-negated.true at l.invariant) in
          (λ j. pushed j ++ items_after 0 false (rest j)) ∙ so_far
      | else-not-negated w ↦
          let so_far = negated_so_far before all l.rest.now marks mark is ends (rw w.if-not-negated.false at l.invariant) in
          (λ j. map item_view (w.items-is j).items ++ items_after 0 false (rest j)) ∙ so_far
    ]
