use Rattle.std.proofs.Common.{◌<◌, ℕ, ◌∙◌, ap, get_or, sym, subst, arith, string_bytes}
use Rattle.brl_cells.specs.Dots.{dot_marks, has_dot}
use Rattle.brl_cells.proofs.Reading.{dot_at, dot_bounds}
use Rattle.brl_cells.proofs.Spelling.{mark_written, mark_left_out}
use Rattle.brl_cells.proofs.dots.push_cell.Goals as goal
use Rattle.brl_cells.proofs.dots.push_cell.Goals.{then-has_dot+in_ok-push, else-has_dot}

pub loop-mark-preserved : goal.loop-mark-preserved
loop-mark-preserved c =
    let mark = get_or dot_marks c.loop-mark.mark-index 0 in
    let bounds = dot_bounds mark (dot_at c.loop-mark.mark-index c.loop-mark-test.true) in
    elim c.if-has_dot.branch [
      | then-has_dot+in_ok-push w ↦
          (let one = w.in_ok-push.ensures.ascii (let lt : mark < 128 = omega (arith, bounds) in subst (λ (m : ℕ). m < 128) (sym w.from.ensures) lt) in
          mark_written (has_dot c.args.cell) dot_marks c.loop-mark.mark-index (string_bytes c.args.text.now) (string_bytes c.loop-mark.text) (string_bytes c.if-has_dot.text) _ c.loop-mark-test.true (sym c.has_dot.ensures ∙ w.if-has_dot.true) c.loop-mark.invariant (ap string_bytes w.text-is ∙ w.in_ok-push.ensures.bytes) (rw (← w.from.ensures) one))
      | else-has_dot w ↦ mark_left_out (has_dot c.args.cell) dot_marks c.loop-mark.mark-index (string_bytes c.args.text.now) (string_bytes c.loop-mark.text) (string_bytes c.if-has_dot.text) c.loop-mark-test.true (sym c.has_dot.ensures ∙ w.if-has_dot.false) c.loop-mark.invariant (ap string_bytes w.text-is)
    ]
