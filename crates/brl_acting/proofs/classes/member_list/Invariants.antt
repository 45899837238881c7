use Rattle.std.proofs.Common.{◌≡◌, take}
use Rattle.brl_acting.specs.Classes.{members}
use Rattle.brl_acting.specs.Sets.{pair_views}
use Rattle.brl_acting.proofs.classes.member_list.Given as goal

abbrev pub invariant-loop-class : goal.invariant-loop-class
invariant-loop-class l = l.chars.items ≡ members l.name (pair_views (take l.class-index l.pairs))
