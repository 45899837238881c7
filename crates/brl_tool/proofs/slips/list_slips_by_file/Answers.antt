use Rattle.std.proofs.Common.{inl, map}
use Rattle.brl_answers.proofs.StepLemmas.{failed}
use Rattle.brl_lines.specs.Gathered.{left_view}
use Rattle.brl_tool.proofs.slips.list_slips_by_file.Goals as goal

pub returns-in_err-table-clause-lists : goal.returns-in_err-table-clause-lists
returns-in_err-table-clause-lists g c = failed _ _ c.from_residual.ensures.1 c.in_err-table.ensures.fault

pub returns-clause-lists : goal.returns-clause-lists
returns-clause-lists g c =
    let table = c.in_ok-table.table in
    inl (table.loaded.lines, (map left_view table.skipped.items, table.loaded.paths, c.in_ok-table.ensures.lines), c.in_ok-list_slips.ensures)
