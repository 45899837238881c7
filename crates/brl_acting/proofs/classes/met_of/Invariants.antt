use Rattle.std.proofs.Common.{◌≡◌, take}
use Rattle.brl_acting.specs.Classes.{met_by}
use Rattle.brl_acting.specs.Sets.{pair_views, set_view}
use Rattle.brl_acting.proofs.classes.met_of.Given as goal

abbrev pub invariant-loop-name : goal.invariant-loop-name
invariant-loop-name l = pair_views l.met.items ≡ met_by (set_view l.stood) (pair_views (take l.name-index l.pairs))
