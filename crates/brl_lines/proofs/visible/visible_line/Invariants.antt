use Rattle.std.proofs.Common.{◌≡◌, string_bytes, true}
use Rattle.std.specs.Str.{encode_utf8_all}
use Rattle.brl_lines.specs.Visible.{line_from}
use Rattle.brl_lines.proofs.VisibleLemmas.{first_after}
use Rattle.brl_lines.proofs.visible.visible_line.Given as goal

-- the characters so far are written
abbrev pub invariant-loop-character : goal.invariant-loop-character
invariant-loop-character l = record {
  bytes : string_bytes l.text ≡ encode_utf8_all (line_from true l.yielded);
  first : l.first ≡ first_after true l.yielded;
}
