use Rattle.std.proofs.Common.{◌∙◌, ℕ, ap, filter, map, rules, subst}
use Rattle.std.specs.List.Sorted.{IsPermutation, IsStableBy}
use Rattle.std.specs.declared.cmp.Reverse.{Reverse}
use Rattle.std.proofs.lemmas.List.Sorted.{answers_always}
use Rattle.brl_slips.specs.Counting.{AreTallies, habit_of, is_often}
use Rattle.brl_slips.specs.declared.habit.Habit.{Habit}
use Rattle.brl_slips.proofs.HabitsOfTallies.{habits-are, more_first}
use Rattle.brl_slips.proofs.habit.habits_of.Goals as goal

pub returns : goal.returns
returns c =
    let tallies = c.in_ok-tallies.tallies.items in
    let old = c.in_ok-habits.habits.items in
    let new = c.sort_by_key.new.self.items in
    let often = c.in_ok-habits.ensures ∙ ap (λ ts. map habit_of (filter is_often ts)) c.as_slice-2.ensures.value in
    let key : Habit → Reverse ℕ = λ habit. record { 0 = habit.count } in
    habits-are c.args.lexicon.now c.args.slips.now tallies new
    (subst (λ cases. AreTallies cases tallies) (c.as_slice.ensures.value ∙ c.in_ok-cases.ensures) c.in_ok-tallies.ensures)
    (subst (λ hs. IsPermutation hs new) often c.sort_by_key.ensures.permutation)
    (c.in_ok-sort_by_key.ensures.sorted key (answers_always _ _ _ (λ f a r g h. search rules)))
    (subst (λ hs. IsStableBy more_first hs new) often (c.sort_by_key.ensures.stable key (answers_always _ _ _ (λ f a r g h. search rules))))
