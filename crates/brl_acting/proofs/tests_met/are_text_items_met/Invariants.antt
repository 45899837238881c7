use Rattle.std.proofs.Common.{◌≡◌, drop, map}
use Rattle.std.specs.List.{list_all}
use Rattle.brl_acting.specs.Readings.{known_view}
use Rattle.brl_acting.specs.Tests.{is_text_item_met, item_view}
use Rattle.brl_acting.proofs.tests_met.are_text_items_met.Given as goal

abbrev pub invariant-loop-item : goal.invariant-loop-item
invariant-loop-item l =
    list_all (is_text_item_met (known_view l.known)) (map item_view (drop l.item-index l.items)) ≡ list_all (is_text_item_met (known_view l.known)) (map item_view l.items)
