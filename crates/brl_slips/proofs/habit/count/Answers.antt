use Rattle.std.proofs.Common.{◌≡◌, ◌≤◌, ◌++◌, ◌∷◌, ◌∙◌, [], Bool, None, Some, ap, arith, get_or, length, refl, subst, sym}
use Rattle.std.specs.List.{position}
use Rattle.std.proofs.lemmas.List.{get_or_default}
use Rattle.std.proofs.lemmas.List.Quantifiers.{position-Some}
use Rattle.std.proofs.lemmas.List.Sums.{count_by-le-length}
use Rattle.brl_slips.specs.Counting.{AreTallies, IsTally, is_of}
use Rattle.brl_slips.specs.Habits.{same}
use Rattle.brl_slips.specs.declared.habit.Tally.{Tally}
use Rattle.brl_slips.proofs.Tallying.{nowhere, tallies-counted, tallies-first}
use Rattle.brl_slips.proofs.habit.count.Goals as goal

pub returns : goal.returns
returns c = λ before short are.
    let tallies = c.args.tallies.now.items in
    let is_this : Tally → Bool = λ tally. same c.args.case.now.difference tally.difference in
    let none : position is_this tallies ≡ None = sym (c.place_of_tally.ensures ∙ ap (position is_this) c.as_slice.ensures.value) ∙ c.in_default.is in
    subst (AreTallies (before ++ c.args.case.now ∷ [])) (sym c.in_ok-push.ensures.items) (tallies-first before c.args.case.now tallies are (nowhere is_this tallies none))

pub returns-in-Some : goal.returns-in-Some
returns-in-Some c = λ before short are.
    let tallies = c.args.tallies.now.items in
    let place = c.in-Some.place in
    let is_this : Tally → Bool = λ tally. same c.args.case.now.difference tally.difference in
    let some : position is_this tallies ≡ Some place = sym (c.place_of_tally.ensures ∙ ap (position is_this) c.as_slice.ensures.value) ∙ c.in-Some.is in
    let old = c.index_mut.result.now in
    let at : get_or tallies place old ≡ old = sym c.index_mut.ensures.value in
    let found = position-Some is_this tallies place old some in
    let is : IsTally before old = subst (IsTally before) at (are.each place old found.0) in
    let read : c.index.result.now ≡ old = c.index.ensures ∙ (get_or_default tallies place c.index.result.now old found.0 ∙ at) in
    let fits : old.count ≤ length before = omega (arith, is.count, count_by-le-length (is_of old.difference) before) in
    tallies-counted before c.args.case.now tallies place old _ are found.0 at (sym (ap is_this at) ∙ found.1) refl
    (omega (arith, c.saturating_add.ensures, ap (λ (tally : Tally). tally.count) read, fits, short)) refl
