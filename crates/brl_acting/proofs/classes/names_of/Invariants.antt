use Rattle.std.proofs.Common.{◌≡◌, List, ℕ, take}
use Rattle.brl_acting.specs.Classes.{is_name_of}
use Rattle.brl_acting.specs.Sets.{names_view, pair_views}
use Rattle.brl_acting.proofs.classes.names_of.Given as goal

abbrev pub invariant-loop-pair : goal.invariant-loop-pair
invariant-loop-pair l = (word : List ℕ) → names_view l.names word ≡ is_name_of (pair_views (take l.pair-index l.pairs)) word
