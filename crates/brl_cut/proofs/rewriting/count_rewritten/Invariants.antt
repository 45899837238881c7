use Rattle.std.proofs.Common.{◌≡◌, ◌≤◌, filter, length, map, take}
use Rattle.brl_lines.specs.Views.{location_view}
use Rattle.brl_cut.specs.Files.{edit_view}
use Rattle.brl_cut.specs.Rewriting.{is_rewritten}
use Rattle.brl_cut.proofs.rewriting.count_rewritten.Given as goal

abbrev pub invariant-loop-place : goal.invariant-loop-place
invariant-loop-place l =
    (l.count ≡ length (filter (is_rewritten (map edit_view l.edits)) (map location_view (take l.place-index l.places)))) × (l.count ≤ l.place-index)
