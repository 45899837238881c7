use Rattle.std.proofs.lemmas.Result.{err_from_is_err_and}
use Rattle.brl_answers.proofs.StepLemmas.{ends_as}
use Rattle.brl_answers.specs.declared.run_fault.RunFault.TheVariants.{NotDefined}
use Rattle.brl_without.specs.Alphabet.{IsLacking, alphabet_view}
use Rattle.brl_tool.proofs.acting.kept_of.Goals as goal

pub returns-in_err-left_out-clause-fault : goal.returns-in_err-left_out-clause-fault
returns-in_err-left_out-clause-fault c =
    let p = err_from_is_err_and c.from_residual.result c.from_residual.ensures.1 in
    rw p.1 (ends_as NotDefined (IsLacking c.args.table.now (alphabet_view c.args.alphabet.now)) _ p.0 p.2 c.in_err-left_out.ensures.fault)
