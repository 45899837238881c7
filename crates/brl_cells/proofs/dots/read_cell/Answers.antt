use Rattle.std.proofs.Common.{ℕ, ◌∙◌, ◌+◌, get_or, sym, subst, false, refl}
use Rattle.brl_cells.proofs.Reading.{ReadSoFar, with_dot, read_more}
use Rattle.brl_cells.proofs.dots.read_cell.Goals as goal

pub loop-mark-preserved : goal.loop-mark-preserved
loop-mark-preserved c =
    let mark = get_or c.args.marks.now c.loop-mark.mark-index 0 in
    let more : ReadSoFar c.args.marks.now (c.loop-mark.mark-index + 1) (with_dot c.loop-mark.cell (get_or c.args.marks.now c.loop-mark.mark-index 0)) =
    read_more c.args.marks.now c.loop-mark.mark-index c.loop-mark.cell mark c.loop-mark-test.true refl (sym c.is_dot.ensures ∙ c.if-not-is_dot.false) (sym c.has_dot.ensures ∙ c.if-has_dot.false) c.loop-mark.invariant in
    subst (λ (n : ℕ). ReadSoFar c.args.marks.now (c.loop-mark.mark-index + 1) (with_dot n (get_or c.args.marks.now c.loop-mark.mark-index 0))) (sym c.cell.view_is) more
