use Rattle.std.proofs.Common.{◌≡◌, ◌++◌, take}
use Rattle.brl_acting.specs.Classes.{classes_of_pairs}
use Rattle.brl_acting.specs.Sets.{pair_views}
use Rattle.brl_acting.proofs.class_pairs.push_pairs.Given as goal

abbrev pub invariant-loop-base : goal.invariant-loop-base
invariant-loop-base l = pair_views l.pairs.items ≡ pair_views l.fn.pairs.items ++ classes_of_pairs (take l.base-index l.bases)
