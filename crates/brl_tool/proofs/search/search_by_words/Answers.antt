use Rattle.std.proofs.Common.{inl}
use Rattle.brl_answers.proofs.StepLemmas.{ended, failed}
use Rattle.brl_without.specs.Alphabet.{alphabet_view}
use Rattle.brl_tool.proofs.search.search_by_words.Goals as goal

-- the option is read, and the files aren't loaded
pub returns-in_err-read-clause-searches : goal.returns-in_err-read-clause-searches
returns-in_err-read-clause-searches g c = inl (alphabet_view c.in_ok-alphabet.alphabet, c.in_ok-alphabet.ensures.spelled, failed _ _ c.from_residual-in_err-read.ensures.1 c.in_err-read.ensures.fault)

-- the files are loaded, and the certificate would overwrite one that is read
pub returns-in_err-refuse_file_that_is_read-clause-searches : goal.returns-in_err-refuse_file_that_is_read-clause-searches
returns-in_err-refuse_file_that_is_read-clause-searches g c =
    inl (
      alphabet_view c.in_ok-alphabet.alphabet,
      c.in_ok-alphabet.ensures.spelled,
      inl (
        c.in_ok-read.read,
        c.in_ok-read.ensures.lines,
        ended _ _ c.from_residual-in_err-refuse_file_that_is_read.ensures.1 c.in_err-refuse_file_that_is_read.ensures.refused,
      ),
    )

-- it would overwrite none, and a line has a fault
pub returns-in_err-loaded-clause-searches : goal.returns-in_err-loaded-clause-searches
returns-in_err-loaded-clause-searches g c =
    inl (
      alphabet_view c.in_ok-alphabet.alphabet,
      c.in_ok-alphabet.ensures.spelled,
      inl (
        c.in_ok-read.read,
        c.in_ok-read.ensures.lines,
        inl (c.in_ok-refuse_file_that_is_read.ensures.apart, failed _ _ c.from_residual-in_err-loaded.ensures.1 c.in_err-loaded.ensures.fault),
      ),
    )

pub returns-clause-searches : goal.returns-clause-searches
returns-clause-searches g c =
    let of = c.in_ok-loaded.ensures in
    inl (
      alphabet_view c.in_ok-alphabet.alphabet,
      c.in_ok-alphabet.ensures.spelled,
      inl (
        c.in_ok-read.read,
        c.in_ok-read.ensures.lines,
        inl (c.in_ok-refuse_file_that_is_read.ensures.apart, inl (of.passes, rw (c.in_ok-read.ensures.same, of.files, of.table) at c.search_loaded.ensures.searches)),
      ),
    )
