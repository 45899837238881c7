-- Internal. How the definitions see the parts of lines.
use Rattle.std.specs.Prelude.{map}
use Rattle.brl_acting.specs.Words.{LineParts}
use Rattle.brl_acting.specs.declared.line_parts.Parts.{Parts}

-- parts as the code has them
abbrev pub parts_view : Parts → LineParts
parts_view parts = record {
  kept = parts.kept;
  continued = parts.continued;
  nofor = parts.nofor;
  classes = map (λ word. word.now) parts.classes.items;
  words = map (λ word. word.now) parts.words.items;
  form = parts.form;
}
