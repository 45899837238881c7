use Rattle.std.proofs.Common.{inl}
use Rattle.brl_answers.proofs.StepLemmas.{ended}
use Rattle.brl_tool.proofs.clash.compare_by_words.Goals as goal

-- the left text is read, and the right one spells none
pub returns-in_err-right-clause-compares : goal.returns-in_err-right-clause-compares
returns-in_err-right-clause-compares g c =
    inl (c.in_ok-left.left.items, c.in_ok-left.ensures.text, ended _ _ c.from_residual-in_err-right.ensures.1 c.in_err-right.ensures.bad)

-- both are read, and there is no table
pub returns-in_err-loaded-clause-compares : goal.returns-in_err-loaded-clause-compares
returns-in_err-loaded-clause-compares g c =
    inl (c.in_ok-left.left.items, c.in_ok-left.ensures.text, inl (c.in_ok-right.right.items, c.in_ok-right.ensures.text, ended _ _ c.from_residual-in_err-loaded.ensures.1 c.in_err-loaded.ensures.fault))

pub returns-clause-compares : goal.returns-clause-compares
returns-clause-compares g c =
    let loaded = c.in_ok-loaded in
    inl (
      c.in_ok-left.left.items,
      c.in_ok-left.ensures.text,
      inl (
        c.in_ok-right.right.items,
        c.in_ok-right.ensures.text,
        inl (loaded.loaded.files.lines, (loaded.loaded.files.paths, loaded.ensures.lines, loaded.ensures.passes), rw (loaded.ensures.table, c.as_slice.ensures.value, c.as_slice-2.ensures.value) at c.compare.ensures),
      ),
    )
