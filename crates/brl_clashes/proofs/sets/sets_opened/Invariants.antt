use Rattle.std.proofs.Common.{◌≡◌, map, take}
use Rattle.brl_clashes.specs.Sets.{set_among}
use Rattle.brl_clashes.proofs.sets.sets_opened.Given as goal

-- the sets of the openers so far
abbrev pub invariant-loop-character : goal.invariant-loop-character
invariant-loop-character l = map (λ set. set.items) l.sets.items ≡ map (set_among l.table l.characters) (take l.character-index l.openers)
