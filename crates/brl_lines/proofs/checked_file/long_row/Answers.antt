use Rattle.std.proofs.Common.{arith, ◌∙◌, ap, sym}
use Rattle.std.proofs.lemmas.Str.{IsCharBoundary-start}
use Rattle.std.specs.List.{position_from}
use Rattle.brl_lines.specs.Lines.{is_long}
use Rattle.brl_lines.specs.Rows.{rows}
use Rattle.brl_lines.proofs.PieceLemmas.{piece_whole}
use Rattle.brl_lines.proofs.RowLemmas.{first_long, none_long}
use Rattle.brl_lines.proofs.checked_file.long_row.Goals as goal

pub loop-at-init : goal.loop-at-init
loop-at-init c = record {
  boundary = IsCharBoundary-start c.args.text.now c.utf8.text;
  within = omega arith;
  few = omega arith;
  same = ap (λ ps. position_from is_long 1 (rows ps)) (piece_whole c.args.text.now);
}

pub returns-then-row-at-gt-MOST_ROW_BYTES : goal.returns-then-row-at-gt-MOST_ROW_BYTES
returns-then-row-at-gt-MOST_ROW_BYTES c =
    sym (first_long c.args.text.now c.loop-at.number c.loop-at.at c.row_at-row.result.to c.row_at-row.result.next c.row_at-row.ensures.from (omega arith) c.row_at-row.ensures.cuts c.if-row-at-gt-MOST_ROW_BYTES.true)
    ∙ c.loop-at.invariant.same

pub loop-at-preserved : goal.loop-at-preserved
loop-at-preserved c = record {
  boundary = c.row_at-row.ensures.next_boundary;
  within = c.row_at-row.ensures.within;
  few = omega arith;
  same = sym (none_long c.args.text.now c.loop-at.number c.loop-at.at c.row_at-row.result.to c.row_at-row.result.next c.row_at-row.ensures.from (omega arith) c.row_at-row.ensures.cuts c.if-row-at-gt-MOST_ROW_BYTES.false)
      ∙ c.loop-at.invariant.same;
}
