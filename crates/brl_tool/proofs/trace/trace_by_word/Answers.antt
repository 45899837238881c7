use Rattle.std.proofs.Common.{inl}
use Rattle.brl_answers.proofs.StepLemmas.{ended}
use Rattle.brl_tool.proofs.trace.trace_by_word.Goals as goal

-- the text is read, and there is no table
pub returns-in_err-loaded-clause-traces : goal.returns-in_err-loaded-clause-traces
returns-in_err-loaded-clause-traces g c =
    inl (c.in_ok-text.text.items, c.in_ok-text.ensures.text, ended _ _ c.from_residual-in_err-loaded.ensures.1 c.in_err-loaded.ensures.fault)

pub returns-clause-traces : goal.returns-clause-traces
returns-clause-traces g c =
    let loaded = c.in_ok-loaded in
    inl (
      c.in_ok-text.text.items,
      c.in_ok-text.ensures.text,
      inl (loaded.loaded.files.lines, (loaded.loaded.files.paths, loaded.ensures.lines, loaded.ensures.passes), rw (loaded.ensures.table, c.as_slice.ensures.value) at c.trace.ensures),
    )
