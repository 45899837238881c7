use Rattle.std.proofs.Common.{◌≡◌, ◌++◌, take}
use Rattle.brl_acting.specs.Classes.{classes_named}
use Rattle.brl_acting.specs.Sets.{pair_views}
use Rattle.brl_acting.proofs.class_pairs.push_named.Given as goal

abbrev pub invariant-loop-character : goal.invariant-loop-character
invariant-loop-character l = pair_views l.pairs.items ≡ pair_views l.fn.pairs.items ++ classes_named l.name (take l.character-index l.chars)
