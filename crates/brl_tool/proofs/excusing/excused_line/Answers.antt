use Rattle.std.proofs.Common.{◌∙◌, ap, ℕ}
use Rattle.std.proofs.lemmas.Result.{IfOk-weaker}
use Rattle.brl_accepted.specs.Counting.{but_for_line, pair_count}
use Rattle.brl_tool.proofs.excusing.excused_line.Goals as goal

pub returns : goal.returns
returns c =
    let excusal = c.args.excusal.now in
    IfOk-weaker c.but_for_line.result _ _ (λ text is. is ∙ ap (λ (n : ℕ). but_for_line (record { pairs = n; sets = excusal.sets })) (c.in_ok-pair_count.ensures ∙ ap pair_count c.as_slice.ensures)) c.but_for_line.ensures
