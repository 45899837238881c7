use Rattle.std.proofs.Common.{inl}
use Rattle.brl_answers.proofs.StepLemmas.{failed}
use Rattle.brl_without.specs.Alphabet.{alphabet_view}
use Rattle.brl_tool.proofs.cut.cut_over.Goals as goal

-- the option is read, and the table isn't cut
pub returns-in_err-of-clause-cuts : goal.returns-in_err-of-clause-cuts
returns-in_err-of-clause-cuts g c =
    inl (alphabet_view c.in_ok-alphabet.alphabet, c.in_ok-alphabet.ensures.spelled, failed _ _ c.from_residual-in_err-of.ensures.1 c.in_err-of.ensures.fault)

pub returns-clause-cuts : goal.returns-clause-cuts
returns-clause-cuts g c =
    inl (alphabet_view c.in_ok-alphabet.alphabet, c.in_ok-alphabet.ensures.spelled, inl (c.in_ok-of.of, c.in_ok-of.ensures.cut, c.judge_cut.ensures))
