use Rattle.std.proofs.Common.{inl}
use Rattle.brl_answers.proofs.StepLemmas.{ended}
use Rattle.brl_without.specs.Alphabet.{alphabet_view}
use Rattle.brl_tool.proofs.check.check_files.Goals as goal

-- the option is read, and the certificate's file has no bytes
pub returns-in_err-bytes-clause-checks : goal.returns-in_err-bytes-clause-checks
returns-in_err-bytes-clause-checks g c = inl (alphabet_view c.in_ok-alphabet.alphabet, c.in_ok-alphabet.ensures.spelled, ended _ _ c.from_residual-in_err-bytes.ensures.1 c.in_err-bytes.ensures.fault)

pub returns-clause-checks : goal.returns-clause-checks
returns-clause-checks g c =
    inl (
      alphabet_view c.in_ok-alphabet.alphabet,
      c.in_ok-alphabet.ensures.spelled,
      inl (c.in_ok-bytes.bytes.items, c.in_ok-bytes.ensures.bytes, rw (c.in_ok-bytes.ensures.same, c.as_slice.ensures.value) at c.check_bytes.ensures.judges),
    )
