use Rattle.std.proofs.Common.{◌≡◌, ◌++◌, flat_map, map, string_bytes, take}
use Rattle.brl_lines.specs.Views.{line_view}
use Rattle.brl_report.specs.Sources.{sign_source}
use Rattle.brl_report.proofs.rules.Lined.push_signs.Given as goal

-- the lines of the indicators so far
abbrev pub invariant-loop-sign : goal.invariant-loop-sign
invariant-loop-sign l =
    string_bytes l.text ≡ string_bytes l.fn.text ++ flat_map (sign_source l.self.table.now (map line_view l.self.lines.now) l.step l.info) (take l.sign-index l.signs)
