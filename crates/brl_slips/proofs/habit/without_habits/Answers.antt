use Rattle.std.proofs.Common.{◌≡◌, ◌∙◌, ◌++◌, ◌∷◌, [], Some, ap, append-nil, sym}
use Rattle.std.specs.List.{list_any, slice_get}
use Rattle.std.proofs.lemmas.Bool.{cond-false, cond-true, not_from_false, not_from_true}
use Rattle.std.proofs.lemmas.Option.{slice_get-get_or}
use Rattle.brl_slips.specs.Habits.{differences_of, is_habit}
use Rattle.brl_slips.specs.Shown.{is_kept}
use Rattle.brl_slips.proofs.HabitsOfTallies.{any-habit, kept_below, kept-more}
use Rattle.brl_slips.proofs.habit.without_habits.Goals as goal
use Rattle.brl_slips.proofs.habit.without_habits.Goals.{then-not-has_habit+in_ok-push, else-not-has_habit}

pub loop-number-preserved : goal.loop-number-preserved
loop-number-preserved c =
    let lexicon = c.args.lexicon.now in
    let slips = c.args.slips.now in
    let number = c.loop-number.number in
    let slip = c.index-slips-number.result in
    let before = kept_below lexicon slips number in
    let at : slice_get slips number ≡ Some slip = slice_get-get_or slips number slip c.loop-number-test.true ∙ ap Some (sym c.index-slips-number.is) in
    let has : c.has_habit.result ≡ list_any (is_habit lexicon slips) (differences_of lexicon slip) =
    c.has_habit.ensures
    ∙ (any-habit lexicon slips c.args.habits.now c.requires.habits c.as_slice.result.now
    ∙ ap (list_any (is_habit lexicon slips)) (c.as_slice.ensures.value ∙ c.in_ok-differences.ensures)) in
    let more = kept-more lexicon slips number slip at in
    elim c.if-not-has_habit.branch [
      | then-not-has_habit+in_ok-push w ↦
          ap (λ v. v.items) w.kept-is
          ∙ (w.in_ok-push.ensures.items
          ∙ (ap (λ ks. ks ++ number ∷ []) c.loop-number.invariant
          ∙ sym (more ∙ ap (λ ks. before ++ ks) (cond-true (is_kept lexicon slips slip) (number ∷ []) [] (not_from_false _ (sym has ∙ w.if-not-has_habit.true))))))
      | else-not-has_habit w ↦
          ap (λ v. v.items) w.kept-is
          ∙ (c.loop-number.invariant
          ∙ sym (more ∙ (ap (λ ks. before ++ ks) (cond-false (is_kept lexicon slips slip) (number ∷ []) [] (not_from_true _ (sym has ∙ w.if-not-has_habit.false))) ∙ append-nil before)))
    ]
