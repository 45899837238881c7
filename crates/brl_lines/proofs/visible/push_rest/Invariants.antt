use Rattle.std.proofs.Common.{◌≡◌, ◌++◌, false, flat_map, string_bytes, take}
use Rattle.std.specs.Str.{encode_utf8_all}
use Rattle.brl_lines.specs.Visible.{visible_character}
use Rattle.brl_lines.proofs.visible.push_rest.Given as goal

-- the characters so far are written
abbrev pub invariant-loop-character : goal.invariant-loop-character
invariant-loop-character l = string_bytes l.text ≡ string_bytes l.fn.text ++ encode_utf8_all (flat_map (visible_character false) (take l.character-index l.characters))
