use Rattle.std.proofs.Common.{◌≡◌, ◌++◌, flat_map, string_bytes, take}
use Rattle.std.specs.Str.{encode_utf8_all}
use Rattle.brl_accepted.specs.Reading.{repeated_character}
use Rattle.brl_accepted.proofs.stale.push_repeated.Given as goal

-- the characters so far
abbrev pub invariant-loop-character : goal.invariant-loop-character
invariant-loop-character l = string_bytes l.text ≡ string_bytes l.fn.text ++ encode_utf8_all (flat_map repeated_character (take l.character-index l.characters))
