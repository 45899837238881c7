use Rattle.std.proofs.Common.{[], ◌∷◌, ap, sym, ◌∙◌}
use Rattle.brl_rules.specs.declared.place.Cond.TheVariants.{Any}
use Rattle.brl_dues.specs.Letters.{left_past, letter_form}
use Rattle.brl_dues.specs.Steps.{step_of}
use Rattle.brl_dues.proofs.Walking.{next-left}
use Rattle.brl_dues.proofs.step.finish_step.Goals as goal

pub returns-in_default : goal.returns-in_default
returns-in_default c =
    next-left c.args.origin.now.table.now c.args.origin.now.state.now c.args.origin.now.letter.now c.args.taken.number c.args.taken.run c.args.taken.others.now c.args.taken.after c.args.taken.cells.now
    c.args.next c.args.left.items _ (ap (λ l. left_past c.args.origin.now.table.now l c.args.origin.now.letter.now.bars) (sym c.requires.reads) ∙ c.requires.left)
    (sym c.in_default.is ∙ c.in_ok-dues.ensures)

pub returns : goal.returns
returns c =
    let o = c.args.origin.now in
    ap (λ x. x ∷ []) (c.in_ok-step_of.ensures ∙ ap (λ l. step_of o.table.now o.state.now (record (letter_form o.letter.now c.args.taken.number c.args.taken.run Any c.args.taken.others.now c.args.taken.after c.args.taken.cells.now) { reads = l }) c.in-Some.dues) c.requires.reads)
    ∙ next-left o.table.now o.state.now o.letter.now c.args.taken.number c.args.taken.run c.args.taken.others.now c.args.taken.after c.args.taken.cells.now
    c.args.next c.args.left.items _ (ap (λ l. left_past o.table.now l o.letter.now.bars) (sym c.requires.reads) ∙ c.requires.left)
    (sym c.in-Some.is ∙ c.in_ok-dues.ensures)
