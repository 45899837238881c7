use Rattle.std.proofs.Common.{◌≡◌, flat_map, map, take}
use Rattle.brl_acting.specs.Classes.{besides_in}
use Rattle.brl_acting.specs.PartsViews.{parts_view}
use Rattle.brl_acting.proofs.class_pairs.besides_of.Given as goal

abbrev pub invariant-loop-parts : goal.invariant-loop-parts
invariant-loop-parts l = l.chars.items ≡ flat_map besides_in (map parts_view (take l.parts-index l.lines))
