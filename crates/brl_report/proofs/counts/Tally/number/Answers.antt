use Rattle.std.proofs.Common.{◌∙◌, ap, unwrap_or}
use Rattle.brl_report.proofs.counts.Tally.number.Goals as goal

pub returns : goal.returns
returns c opcodes tally = c.unwrap_or.ensures ∙ ap (λ o. unwrap_or o 0) (c.copied.ensures ∙ c.get.ensures.value) ∙ tally.numbers_are c.args.opcode.now
