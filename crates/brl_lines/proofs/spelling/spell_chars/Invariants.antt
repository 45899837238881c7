use Rattle.std.proofs.Common.{◌≡◌, true, take, string_bytes}
use Rattle.std.specs.Str.{all_scalars, encode_utf8_all}
use Rattle.brl_lines.specs.Spelling.{text_spelling}
use Rattle.brl_lines.proofs.spelling.spell_chars.Given as goal

abbrev pub invariant-loop-character : goal.invariant-loop-character
invariant-loop-character l = record {
  bytes : string_bytes l.text ≡ encode_utf8_all (text_spelling (take l.character-index l.characters));
  scalars : all_scalars (take l.character-index l.characters) ≡ true;
}
