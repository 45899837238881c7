use Rattle.std.proofs.Common.{◌≡◌, take}
use Rattle.std.specs.Prelude.{flat_map, string_bytes}
use Rattle.brl_answers.specs.Answers.{spelled_after_blank}
use Rattle.brl_answers.proofs.alphabet.spell_one_by_one.Given as goal

-- the characters so far are spelled
abbrev pub invariant-loop-character : goal.invariant-loop-character
invariant-loop-character l = string_bytes l.text ≡ flat_map spelled_after_blank (take l.character-index l.characters)
