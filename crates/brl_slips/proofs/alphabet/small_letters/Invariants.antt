use Rattle.std.proofs.Common.{◌≡◌, [], flat_map, map, nat_eq, take}
use Rattle.indexmap.specs.IndexMap.{insert_all}
use Rattle.brl_lines.specs.Views.{line_view}
use Rattle.brl_slips.specs.Lines.{small_letter}
use Rattle.brl_slips.proofs.alphabet.small_letters.Given as goal

abbrev pub invariant-loop-line : goal.invariant-loop-line
invariant-loop-line l = l.small.entries ≡ insert_all nat_eq [] (flat_map small_letter (map line_view (take l.line-index l.lines)))
