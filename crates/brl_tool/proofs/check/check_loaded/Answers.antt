use Rattle.std.proofs.Common.{inl}
use Rattle.std.specs.Option.{option_copied}
use Rattle.brl_answers.proofs.StepLemmas.{ended, failed}
use Rattle.brl_tool.proofs.CheckLemmas.{judged_count}
use Rattle.brl_without.specs.Alphabet.{alphabet_view}
use Rattle.brl_tool.proofs.check.check_loaded.Goals as goal

-- the table lacks characters of the alphabet
pub returns-in_err-left_out-clause-judges : goal.returns-in_err-left_out-clause-judges
returns-in_err-left_out-clause-judges g c = failed _ _ c.from_residual.ensures.1 c.in_err-left_out.ensures.fault

-- it has them, and it isn't known what is excused
pub returns-in_err-excusal-clause-judges : goal.returns-in_err-excusal-clause-judges
returns-in_err-excusal-clause-judges g c = inl (c.in_ok-left_out.ensures.all, ended _ _ c.from_residual-in_err-excusal.ensures.1 c.in_err-excusal.ensures.fault)

pub returns-clause-judges : goal.returns-clause-judges
returns-clause-judges g c = inl (c.in_ok-left_out.ensures.all, inl (c.in_ok-excusal.excusal, c.in_ok-excusal.ensures.excuses, c.judgement.ensures))

pub returns-clause-count : goal.returns-clause-count
returns-clause-count g c =
    let faults = g.S.Source.faults in
    judged_count (alphabet_view c.args.alphabet.now) (option_copied c.args.accept) c.in_ok-excusal.excusal c.args.loaded.now.table c.args.bytes.now c.in_ok-left_out.ensures.defined (faults c.args.source.now) (faults c.excusal_by.new.source)
    c.in_ok-excusal.ensures.count c.judgement.result c.judgement.ensures
