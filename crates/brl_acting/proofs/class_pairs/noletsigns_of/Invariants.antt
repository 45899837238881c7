use Rattle.std.proofs.Common.{◌≡◌, map, take}
use Rattle.brl_acting.specs.Classes.{noletsigns_of}
use Rattle.brl_acting.specs.PartsViews.{parts_view}
use Rattle.brl_acting.proofs.class_pairs.noletsigns_of.Given as goal

abbrev pub invariant-loop-parts : goal.invariant-loop-parts
invariant-loop-parts l = l.letters.items ≡ noletsigns_of (map parts_view (take l.parts-index l.lines))
