use Rattle.std.proofs.Common.{◌≡◌, ◌++◌, length, option_map}
use denote.Text.{Utf8}
use denote.Shadow.{shadow}
use Rattle.std.specs.Str.{chars}
use Rattle.brl_lines.specs.Escapes.{spelled}
use Rattle.brl_lines.proofs.operand.chars_of.Given as goal

abbrev pub invariant-loop-rest : goal.invariant-loop-rest
invariant-loop-rest l = record {
  utf8 : shadow (Utf8 l.rest);
  same : spelled 0 (chars l.operand) ≡ option_map (λ cs. l.found.items ++ cs) (spelled 0 (chars l.rest));
}

abbrev pub decreases-loop-rest : goal.decreases-loop-rest
decreases-loop-rest l = length l.rest
