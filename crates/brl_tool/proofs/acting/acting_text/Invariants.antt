use Rattle.std.proofs.Common.{◌≡◌, flat_map, map, string_bytes, take}
use Rattle.std.specs.List.{enumerate_from}
use Rattle.brl_acting.specs.WholeTable.{acting_view}
use Rattle.brl_tool.specs.Acting.{text_at}
use Rattle.brl_tool.proofs.acting.acting_text.Given as goal

abbrev pub invariant-loop-place : goal.invariant-loop-place
invariant-loop-place l =
    string_bytes l.text ≡ flat_map (text_at (map acting_view l.lines)) (take l.place (enumerate_from 0 (map acting_view l.lines)))
