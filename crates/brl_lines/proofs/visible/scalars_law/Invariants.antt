use Rattle.std.proofs.Common.{◌≡◌, take, true}
use Rattle.std.specs.Str.{all_scalars}
use Rattle.brl_lines.proofs.visible.scalars_law.Given as goal

-- those so far are scalar values
abbrev pub invariant-loop-character : goal.invariant-loop-character
invariant-loop-character l = all_scalars (take l.character-index l.characters) ≡ true
