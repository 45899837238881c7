use Rattle.std.proofs.Common.{◌≡◌, map, option_map, take}
use Rattle.brl_lines.specs.Views.{line_view}
use Rattle.brl_cut.specs.Signs.{last_sign, sign_view}
use Rattle.brl_cut.proofs.signs.last_sign.Given as goal

abbrev pub invariant-loop-line : goal.invariant-loop-line
invariant-loop-line l = option_map sign_view l.last ≡ last_sign l.opcode (map line_view (take l.line-index l.lines))
