use Rattle.std.proofs.Common.{◌≡◌, ◌∙◌, List, Some, ap, false, length, refl, set, slice_get, subst, sym, true, ℕ}
use Rattle.std.proofs.lemmas.Option.{slice_get_read}
use Rattle.brl_unused.specs.Exploring.{MarksAre}
use Rattle.brl_unused.proofs.Exploring.{marks_add}
use Rattle.brl_unused.proofs.found.add.Goals as goal

pub returns-clause-marked : goal.returns-clause-marked
returns-clause-marked c =
    let marks = c.args.marks.now.items in
    let number = c.args.number in
    let free : slice_get marks number ≡ Some false = slice_get_read marks (length marks) number c.index.result.now refl c.requires.within c.index.ensures ∙ ap Some c.if-index.false in
    subst (λ (xs : List ℕ). MarksAre xs (set marks number true)) (sym c.in_ok-push.ensures.items) (marks_add c.args.order.now.items marks c.requires.marked number free)
