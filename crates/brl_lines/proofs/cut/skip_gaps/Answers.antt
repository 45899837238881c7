use Rattle.std.proofs.Common.{arith, sym, ◌∙◌, ◌≡◌, true, get_or}
use Rattle.brl_lines.specs.Tokens.{is_gap}
use Rattle.brl_lines.proofs.TokenLemmas.{skip_one, after_gap}
use Rattle.brl_lines.proofs.cut.skip_gaps.Goals as goal

pub loop-at-preserved : goal.loop-at-preserved
loop-at-preserved c =
    let gap : is_gap (get_or c.args.text.now c.loop-at.at 0) ≡ true = rw (← c.as_bytes-bytes.ensures.value) (sym c.is_gap.ensures ∙ c.if-is_gap.true) in
    record {
      from = omega arith;
      to = omega arith;
      boundary = after_gap c.args.text.now c.loop-at.at c.utf8.text (omega arith) gap;
      same = c.loop-at.invariant.same ∙ skip_one c.args.text.now c.loop-at.at c.args.to c.loop-at-test.true c.requires.within gap;
    }
