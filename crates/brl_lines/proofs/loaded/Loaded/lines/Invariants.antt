use Rattle.std.proofs.Common.{◌≡◌, map, take}
use Rattle.brl_lines.specs.Files.{lines_at}
use Rattle.brl_lines.specs.Views.{line_view}
use Rattle.brl_lines.proofs.loaded.Loaded.lines.Given as goal

abbrev pub invariant-loop-span : goal.invariant-loop-span
invariant-loop-span l = map line_view l.lines.items ≡ lines_at l.self-inside.files.entries (take l.span-index l.self-inside.spans.items)
