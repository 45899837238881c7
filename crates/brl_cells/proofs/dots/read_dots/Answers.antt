use Rattle.std.proofs.Common.{◌≡◌, ◌≤◌, ◌∙◌, ap, arith, length, lit<, Ok}
use Rattle.std.proofs.lemmas.Iterator.Consumers.{YieldsList-turn, YieldsList-end}
use Rattle.std.proofs.lemmas.Iterator.Splits.{YieldsList-from_str_split}
use Rattle.std.proofs.lemmas.List.{length_push}
use Rattle.std.proofs.lemmas.Result.{err_from_is_err_and}
use Rattle.brl_cells.specs.Dots.{parts, cell_reading, reading}
use Rattle.brl_cells.proofs.InRange.{cells_are_read}
use Rattle.brl_cells.proofs.Parts.{parts_more, parts_fault, parts_all, reading_fault, reading_too_many, reading_is, parts_some, step_ok, step_fault}
use Rattle.brl_cells.proofs.dots.read_dots.Goals as goal

pub loop-marks-preserved : goal.loop-marks-preserved
loop-marks-preserved c =
    let t = YieldsList-turn (YieldsList-from_str_split 45 c.args.text.now (lit< tt) (cc) (cc) (cc)) c.loop-marks.yielded _ c.loop-marks.yielded_by _ _ c.in-Some.marks c.in-Some.is c.next.ensures.steps in
    let cell : Ok c.in_ok-cell.cell ≡ cell_reading c.in-Some.marks.now = step_ok c.read_cell.result c.map_err.result c.in_ok-cell.cell c.map_err.ensures.cases c.in_ok-cell.was ∙ c.read_cell.ensures ∙ ap cell_reading c.as_bytes.ensures.value in
    rw (length_push c.loop-marks.yielded c.in-Some.marks, c.in_ok-push.ensures.ok) (parts_more (parts c.args.text.now) (length c.loop-marks.yielded) c.loop-marks.cells c.in-Some.marks.now t.0 t.1 c.loop-marks.invariant c.in_ok-cell.cell cell)

pub returns-in_err-cell-clause-cells : goal.returns-in_err-cell-clause-cells
returns-in_err-cell-clause-cells c =
    let t = YieldsList-turn (YieldsList-from_str_split 45 c.args.text.now (lit< tt) (cc) (cc) (cc)) c.loop-marks.yielded _ c.loop-marks.yielded_by _ _ c.in-Some.marks c.in-Some.is c.next.ensures.steps in
    let p = err_from_is_err_and c.from_residual.result c.from_residual.ensures.1 in
    let is : c.read_cell.result ≡ cell_reading c.in-Some.marks.now = c.read_cell.ensures ∙ ap cell_reading c.as_bytes.ensures.value in
    rw (p.1, p.2)
    (step_fault c.read_cell.result c.map_err.result c.in_err-cell.field-0.0 (reading c.args.most c.args.text.now) c.map_err.ensures.cases c.in_err-cell.was
    (λ fault same. reading_fault c.args.most c.args.text.now fault
    (parts_fault (parts c.args.text.now) (length c.loop-marks.yielded) c.loop-marks.cells c.in-Some.marks.now t.0 t.1 c.loop-marks.invariant fault (same ∙ is))))

pub returns-then-len-most-clause-cells : goal.returns-then-len-most-clause-cells
returns-then-len-most-clause-cells c =
    let t = YieldsList-end (YieldsList-from_str_split 45 c.args.text.now (lit< tt) (cc) (cc) (cc)) c.loop-marks.yielded _ c.loop-marks.yielded_by _ _ c.in-None.is c.next.ensures.steps in
    let found = parts_all (parts c.args.text.now) (length c.loop-marks.yielded) c.loop-marks.cells (omega (arith, t.1)) c.loop-marks.invariant in
    reading_too_many c.args.most c.args.text.now c.loop-marks.cells (omega (arith, c.len.ensures, c.if-len-most.true)) found

pub returns : goal.returns
returns c =
    let t = YieldsList-end (YieldsList-from_str_split 45 c.args.text.now (lit< tt) (cc) (cc) (cc)) c.loop-marks.yielded _ c.loop-marks.yielded_by _ _ c.in-None.is c.next.ensures.steps in
    let found = parts_all (parts c.args.text.now) (length c.loop-marks.yielded) c.loop-marks.cells (omega (arith, t.1)) c.loop-marks.invariant in
    let within : length c.loop-marks.cells ≤ c.args.most = omega (arith, c.len.ensures, c.if-len-most.false) in
    let read = reading_is c.args.most c.args.text.now c.loop-marks.cells within found in
    record {
      cells = read;
      some = parts_some c.args.text.now c.loop-marks.cells found;
      limited = within;
      in_range = cells_are_read c.args.most c.args.text.now c.loop-marks.cells read;
    }
