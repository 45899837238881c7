use Rattle.std.proofs.Common.{◌≡◌, flat_map, map, take}
use Rattle.std.specs.List.{enumerate_from}
use Rattle.brl_acting.specs.Readings.{rule_at, rule_view}
use Rattle.brl_acting.specs.PartsViews.{parts_view}
use Rattle.brl_acting.proofs.rules.rules_of.Given as goal

abbrev pub invariant-loop-place : goal.invariant-loop-place
invariant-loop-place l = map rule_view l.rules.items ≡ flat_map rule_at (take l.place (enumerate_from 0 (map parts_view l.lines)))
