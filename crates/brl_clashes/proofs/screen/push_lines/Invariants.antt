use Rattle.std.proofs.Common.{◌≡◌, ◌++◌, flat_map, string_bytes, take}
use Rattle.brl_clashes.specs.Screen.{kind_line}
use Rattle.brl_clashes.proofs.screen.push_lines.Given as goal

-- the lines so far are written
abbrev pub invariant-loop-line : goal.invariant-loop-line
invariant-loop-line l = string_bytes l.text ≡ string_bytes l.fn.text ++ flat_map (kind_line l.kinds) (take l.line-index l.lines)
