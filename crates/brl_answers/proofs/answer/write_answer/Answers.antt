use Rattle.std.proofs.Common.{refl}
use Rattle.brl_answers.proofs.DeliveryLemmas.{stopped_at_files}
use Rattle.brl_answers.proofs.answer.write_answer.Goals as goal

pub returns-in_err-write_files : goal.returns-in_err-write_files
returns-in_err-write_files g c =
    stopped_at_files _ _ c.args.answer c.in_err-write_files.field-0.0 c.from_residual.result c.from_residual.ensures.1 refl c.in_err-write_files.ensures
