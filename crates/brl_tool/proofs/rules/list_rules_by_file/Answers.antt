use Rattle.std.proofs.Common.{inl}
use Rattle.brl_tool.proofs.rules.list_rules_by_file.Goals as goal

pub returns-clause-lists : goal.returns-clause-lists
returns-clause-lists g c =
    let loaded = c.in_ok-loaded in
    inl (loaded.loaded.files.lines, (loaded.loaded.files.paths, loaded.ensures.lines, loaded.ensures.passes), rw loaded.ensures.table at c.list_rules.ensures)
