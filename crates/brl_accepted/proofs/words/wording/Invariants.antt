use Rattle.std.proofs.Common.{◌≡◌, map, string_bytes, take}
use Rattle.brl_lines.specs.Views.{line_view}
use Rattle.brl_report.specs.Rules.{rule_words}
use Rattle.brl_accepted.proofs.words.wording.Given as goal

-- what the rules so far say
abbrev pub invariant-loop-number : goal.invariant-loop-number
invariant-loop-number l = map string_bytes l.words.items ≡ map (rule_words l.table (map line_view l.fn.lines)) (take l.number-index l.number-items)
