use Rattle.std.proofs.Common.{◌≡◌, map, take}
use Rattle.brl_acting.specs.Classes.{classes_of}
use Rattle.brl_acting.specs.Sets.{pair_views}
use Rattle.brl_acting.specs.PartsViews.{parts_view}
use Rattle.brl_acting.proofs.class_pairs.classes_of.Given as goal

abbrev pub invariant-loop-parts : goal.invariant-loop-parts
invariant-loop-parts l = pair_views l.pairs.items ≡ classes_of (map parts_view (take l.parts-index l.lines))
