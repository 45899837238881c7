use Rattle.std.proofs.Common.{inl}
use Rattle.brl_tool.proofs.check.check_bytes.Goals as goal

pub returns-clause-judges : goal.returns-clause-judges
returns-clause-judges g c =
    let loaded = c.in_ok-loaded in
    inl (loaded.loaded.files.lines, (loaded.loaded.files.paths, loaded.ensures.lines, loaded.ensures.passes), rw (loaded.ensures.same, loaded.ensures.table) at c.check_loaded.ensures.judges)
