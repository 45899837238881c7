use Rattle.std.proofs.Common.{◌≡◌, ◌++◌, flat_map, map, string_bytes, take}
use Rattle.brl_lines.specs.Views.{line_view}
use Rattle.brl_clashes.specs.Columns.{column_line}
use Rattle.brl_clashes.proofs.section_text.push_all_columns.Given as goal

-- the lines of the clashes so far are written
abbrev pub invariant-loop-clash : goal.invariant-loop-clash
invariant-loop-clash l =
    string_bytes l.text ≡ string_bytes l.fn.text
    ++ flat_map (column_line l.listing.table.now (map line_view l.listing.lines.now) l.listing.firsts.now l.listing.listed.now l.kind) (take l.clash-index l.shown)
