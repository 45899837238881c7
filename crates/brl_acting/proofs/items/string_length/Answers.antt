use Rattle.std.proofs.Common.{◌≡◌, ◌∙◌, ◌&&◌, ◌==◌, false, arith, get_or, not, sym}
use Rattle.std.proofs.lemmas.Grind.{common_steps}
use Rattle.brl_acting.proofs.ItemSteps.{string_goes_on}
use Rattle.brl_acting.proofs.items.string_length.Goals.{else-not-escaped-via-then-not-escaped+else-mark-eq34, else-not-escaped-via-else-not-escaped}
use Rattle.brl_acting.proofs.items.string_length.Goals.{then-not-escaped-2, else-not-escaped-2}
use Rattle.brl_acting.proofs.items.string_length.Goals as goal

pub loop-place-preserved : goal.loop-place-preserved
loop-place-preserved c =
    let marks = c.args.marks.now in
    let place = c.loop-place.place in
    let escaped = c.loop-place.escaped in
    let goes : (not escaped && (get_or marks place 0 == 34)) ≡ false =
    elim c.else-not-escaped.branch [
      | else-not-escaped-via-then-not-escaped+else-mark-eq34 w ↦ grind (arith, common_steps)
      | else-not-escaped-via-else-not-escaped w ↦ grind (arith, common_steps)
    ] in
    let next : c.if-not-escaped-2.escaped ≡ (not escaped && (get_or marks place 0 == 92)) =
    elim c.if-not-escaped-2.branch [ then-not-escaped-2 w ↦ grind (arith, common_steps) | else-not-escaped-2 w ↦ grind (arith, common_steps) ] in
    rw next (sym (string_goes_on marks place escaped c.loop-place-test.true goes) ∙ c.loop-place.invariant)
