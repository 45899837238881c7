use Rattle.std.proofs.Common.{◌≡◌, ℕ, List, ◌∙◌, ◌++◌, ap, arith, string_bytes}
use Rattle.brl_cells.specs.Dots.{cell_spelling, reading}
use Rattle.brl_cells.proofs.Spelling.{first_written, next_written, all_written}
use Rattle.brl_cells.proofs.ReadBack.{spelled_cells_are_read}
use Rattle.brl_cells.proofs.dots.write_dots.Goals as goal
use Rattle.brl_cells.proofs.dots.write_dots.Goals.{then-place-gt0+in_ok-push, else-place-gt0}

pub loop-place-preserved : goal.loop-place-preserved
loop-place-preserved c =
    let cells = c.args.cells.now in
    let new = string_bytes c.push_cell.new.text in
    elim c.if-place-gt0.branch [
      | then-place-gt0+in_ok-push w ↦
          (let hyphen = ap string_bytes w.text-is ∙ w.in_ok-push.ensures.bytes ∙ ap (λ (bytes : List ℕ). string_bytes c.loop-place.text ++ bytes) (w.in_ok-push.ensures.ascii (omega arith)) in
          next_written cells c.loop-place.place c.index-cells-place.result (string_bytes c.loop-place.text) new c.loop-place-test.true c.index-cells-place.is c.push_cell.ensures.in_range c.loop-place.invariant (string_bytes c.if-place-gt0.text) w.if-place-gt0.true hyphen c.in_ok-push_cell.ensures.written)
      | else-place-gt0 w ↦
          (let same : string_bytes c.if-place-gt0.text ≡ string_bytes c.loop-place.text = ap string_bytes w.text-is in
          first_written cells c.loop-place.place c.index-cells-place.result (string_bytes c.loop-place.text) new c.loop-place-test.true c.index-cells-place.is c.push_cell.ensures.in_range c.loop-place.invariant (omega (arith, w.if-place-gt0.false)) (c.in_ok-push_cell.ensures.written ∙ ap (λ (bytes : List ℕ). bytes ++ cell_spelling c.index-cells-place.result) same))
    ]

pub returns : goal.returns
returns c =
    let all = all_written c.args.cells.now c.loop-place.place (string_bytes c.loop-place.text) c.loop-place-test.false c.loop-place.invariant in
    record {
      spelled = all.0;
      read_back = λ most some le. ap (reading most) all.0 ∙ spelled_cells_are_read most c.args.cells.now all.1 some le;
      in_range = all.1;
    }
