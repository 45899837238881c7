use Rattle.std.proofs.Common.{◌≡◌, flat_map, string_bytes}
use Rattle.brl_explain.specs.Details.{unclear_spelling}
use Rattle.brl_explain.proofs.details.unclear_characters.Given as goal

-- the characters so far
abbrev pub invariant-loop-character : goal.invariant-loop-character
invariant-loop-character l = string_bytes l.text ≡ flat_map unclear_spelling l.yielded
