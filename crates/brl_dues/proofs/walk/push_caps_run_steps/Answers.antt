use Rattle.std.proofs.Common.{Global, Vec, [], ◌∷◌, ◌&&◌, ap, ap₂, sym, ◌∙◌}
use Rattle.std.specs.Prelude.{option_map}
use Rattle.brl_rules.specs.Text.{has_word_capitals}
use Rattle.brl_states.specs.declared.due.Due.{Due}
use Rattle.brl_dues.specs.Capitals.{is_upper}
use Rattle.brl_dues.specs.Letters.{left_past}
use Rattle.brl_dues.proofs.Walking.{broken-steps, no-run, no-steps, nothing-on}
use Rattle.brl_dues.proofs.walk.push_caps_run_steps.Goals as goal

pub returns-then-not-may_begin_caps_run : goal.returns-then-not-may_begin_caps_run
returns-then-not-may_begin_caps_run c =
    let o = c.args.origin.now in
    nothing-on o.table.now o.state.now o.letter.now c.args.taken.number c.args.taken.after c.args.taken.cells.now c.args.listed.now.items [] c.args.taken.others.now
    (no-run o.table.now o.state.now o.letter.now c.args.taken.number c.args.taken.after c.args.taken.cells.now c.args.taken.others.now
    (ap (λ x. has_word_capitals o.table.now && is_upper o.table.now x) (sym c.character-first.ensures) ∙ sym c.if-not-may_begin_caps_run.ensures))

pub returns-then-not-branch : goal.returns-then-not-branch
returns-then-not-branch c =
    let o = c.args.origin.now in
    nothing-on o.table.now o.state.now o.letter.now c.args.taken.number c.args.taken.after c.args.taken.cells.now c.args.listed.now.items [] c.args.taken.others.now
    (no-steps o.table.now o.state.now o.letter.now c.args.taken.number c.args.taken.after c.args.taken.cells.now c.args.taken.others.now (sym c.in_ok-has_choices.ensures ∙ c.if-not-branch.true))

pub returns-in_default : goal.returns-in_default
returns-in_default c =
    let o = c.args.origin.now in
    nothing-on o.table.now o.state.now o.letter.now c.args.taken.number c.args.taken.after c.args.taken.cells.now c.args.listed.now.items [] c.args.taken.others.now
    (broken-steps o.table.now o.state.now o.letter.now c.args.taken.number c.args.taken.after c.args.taken.cells.now [] c.args.taken.others.now
    (sym (ap (λ x. left_past x (c.character-first.result ∷ []) c.bars-bars.result.now) c.table.ensures ∙ ap₂ (λ x ds. left_past o.table.now (x ∷ []) ds) c.character-first.ensures c.bars-bars.ensures.bars) ∙ sym c.in_ok-left.ensures.left ∙ ap (option_map (λ (l : Vec Due Global). l.items)) c.in_default.is))
