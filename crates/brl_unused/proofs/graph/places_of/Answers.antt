use Rattle.std.proofs.Common.{◌∙◌, ◌≡◌, ◌<◌, ◌↔◌, ℕ, Bool, Contains, List, Some, true, false, ap, arith, get_or, refl, slice_get, subst, sym, ◌+◌}
use Rattle.std.specs.Bool.{beq}
use Rattle.std.proofs.lemmas.Option.{slice_get-get_or}
use Rattle.brl_unused.specs.Graph.{AreAscending}
use Rattle.brl_unused.proofs.Marked.{ascending-more, places-again, places-all, places-more}
use Rattle.brl_unused.proofs.graph.places_of.Goals as goal
use Rattle.brl_unused.proofs.graph.places_of.Goals.{then-marks-place+in_ok-push, else-marks-place}

beq_same : (a b : Bool) → beq a b ≡ true → a ≡ b
beq_same true true h = refl
beq_same true false h = cc
beq_same false true h = cc
beq_same false false h = refl

beq_other : (a b : Bool) → beq a b ≡ false → a ≡ b → ⊥
beq_other true true h e = cc
beq_other true false h e = cc
beq_other false true h e = cc
beq_other false false h e = cc

pub loop-place-preserved : goal.loop-place-preserved
loop-place-preserved c =
    let marks = c.args.marks.now in
    let mark = c.args.mark in
    let place = c.loop-place.place in
    let places = c.loop-place.places.items in
    let at = slice_get-get_or marks place false c.loop-place-test.true in
    let Kept : List ℕ → Type 0 = λ xs. ((p : ℕ) → Contains xs p ↔ ((p < place + 1) × (slice_get marks p ≡ Some mark))) × AreAscending xs in
    let kept : Kept c.if-marks-place.places.items =
    elim c.if-marks-place.branch [
      | then-marks-place+in_ok-push w ↦ subst Kept (sym (ap (λ v. v.items) w.places-is ∙ w.in_ok-push.ensures.items))
          (places-more marks mark places place c.loop-place.invariant.each (at ∙ ap Some (beq_same _ mark w.if-marks-place.true)), ascending-more marks mark places place c.loop-place.invariant.each c.loop-place.invariant.ascending)
      | else-marks-place w ↦ subst Kept (sym (ap (λ v. v.items) w.places-is))
          (places-again marks mark places place c.loop-place.invariant.each (λ e. beq_other _ mark w.if-marks-place.false (let same : Some (get_or marks place false) ≡ Some mark = sym at ∙ e in cc)), c.loop-place.invariant.ascending)
    ] in
    record { each = kept.0; ascending = kept.1 }

pub returns-clause-each : goal.returns-clause-each
returns-clause-each c = places-all c.args.marks.now c.args.mark c.loop-place.places.items c.loop-place.place (omega (arith, c.loop-place-test.false)) c.loop-place.invariant.each
