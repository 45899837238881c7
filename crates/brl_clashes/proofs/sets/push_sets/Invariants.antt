use Rattle.std.proofs.Common.{◌≡◌, ◌++◌, flat_map, string_bytes, take}
use Rattle.brl_clashes.specs.ClashesText.{set_line}
use Rattle.brl_clashes.proofs.sets.push_sets.Given as goal

-- the lines of the sets so far
abbrev pub invariant-loop-character : goal.invariant-loop-character
invariant-loop-character l = string_bytes l.text ≡ string_bytes l.fn.text ++ flat_map (set_line l.table l.characters) (take l.character-index l.openers)
