use Rattle.std.proofs.Common.{inl}
use Rattle.brl_answers.proofs.StepLemmas.{ended}
use Rattle.brl_tool.proofs.UnusedLemmas.{listed_count}
use Rattle.brl_without.specs.Alphabet.{alphabet_view}
use Rattle.brl_tool.proofs.unused.list_unused_by_words.Goals as goal

-- the option is read, and there is no table
pub returns-in_err-loaded-clause-lists : goal.returns-in_err-loaded-clause-lists
returns-in_err-loaded-clause-lists g c =
    inl (alphabet_view c.in_ok-alphabet.alphabet, c.in_ok-alphabet.ensures.spelled, ended _ _ c.from_residual-in_err-loaded.ensures.1 c.in_err-loaded.ensures.fault)

pub returns-clause-lists : goal.returns-clause-lists
returns-clause-lists g c =
    let loaded = c.in_ok-loaded in
    inl (
      alphabet_view c.in_ok-alphabet.alphabet,
      c.in_ok-alphabet.ensures.spelled,
      inl (loaded.loaded.files.lines, (loaded.loaded.files.paths, loaded.ensures.lines, loaded.ensures.passes), rw loaded.ensures.table at c.list_unused.ensures),
    )

pub returns-clause-count : goal.returns-clause-count
returns-clause-count g c = listed_count _ _ c.in_ok-loaded.ensures.count c.in_ok-loaded.loaded.table (alphabet_view c.in_ok-alphabet.alphabet) _ c.list_unused.result c.list_unused.ensures
