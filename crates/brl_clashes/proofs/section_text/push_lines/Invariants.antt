use Rattle.std.proofs.Common.{◌≡◌, ◌++◌, flat_map, map, string_bytes, take}
use Rattle.brl_lines.specs.Views.{line_view}
use Rattle.brl_clashes.specs.SectionText.{rule_clash_line}
use Rattle.brl_clashes.proofs.section_text.push_lines.Given as goal

-- the lines of the clashes so far
abbrev pub invariant-loop-clash : goal.invariant-loop-clash
invariant-loop-clash l = string_bytes l.text ≡ string_bytes l.fn.text ++ flat_map (rule_clash_line l.table (map line_view l.lines)) (take l.clash-index l.clashes)
