use Rattle.std.proofs.Common.{◌≡◌, ◌<◌, ◌≤◌, ◌-◌, ◌^◌, drop, length}
use denote.Text.{Utf8}
use denote.Shadow.{shadow}
use Rattle.std.specs.Str.{chars}
use Rattle.brl_lines.specs.Escapes.{hexadecimal}
use Rattle.brl_lines.proofs.operand.number.Given as goal

abbrev pub invariant-loop-read : goal.invariant-loop-read
invariant-loop-read l = record {
  utf8 : shadow (Utf8 l.rest);
  small : l.value < 16 ^ l.read;
  shorter : length l.rest ≤ length l.fn.text;
  left : chars l.rest ≡ drop l.read (chars l.fn.text);
  same : hexadecimal (l.count - l.read) l.value (chars l.rest) ≡ hexadecimal l.count 0 (chars l.fn.text);
}
