use Rattle.std.proofs.Common.{arith, sym, ◌∙◌, ◌≡◌, ◌≢◌, ◌-◌, true, false, get_or}
use Rattle.brl_lines.specs.Tokens.{is_gap}
use Rattle.brl_lines.proofs.TokenLemmas.{token_cut}
use Rattle.brl_lines.proofs.cut.token_end.Goals as goal

pub returns-then-is_gap-clause-cuts : goal.returns-then-is_gap-clause-cuts
returns-then-is_gap-clause-cuts c =
    let gap : is_gap (get_or c.args.text.now c.loop-at.at 0) ≡ true = rw (← c.as_bytes-bytes.ensures.value) (sym c.is_gap.ensures ∙ c.if-is_gap.true) in
    let apart : c.loop-at.at ≢ c.args.from = λ e. let mark : is_gap (get_or c.args.text.now c.loop-at.at 0) ≡ false = rw e c.requires.mark in cc in
    token_cut c.args.text.now (c.loop-at.at - c.args.from - 1) c.args.from c.loop-at.at c.args.to (omega arith) (omega arith) c.requires.within c.loop-at.invariant (λ _. gap)

pub returns-clause-cuts : goal.returns-clause-cuts
returns-clause-cuts c =
    token_cut c.args.text.now (c.args.to - c.args.from - 1) c.args.from c.args.to c.args.to (omega arith) (omega arith) c.requires.within (λ n a b. c.loop-at.invariant n a (omega arith)) (λ h. absurd (omega arith))
