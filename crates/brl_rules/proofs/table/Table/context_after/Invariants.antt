use Rattle.std.proofs.Common.{◌≡◌, drop}
use Rattle.brl_rules.specs.Text.{context_after_all}
use Rattle.brl_rules.proofs.table.Table.context_after.Given as goal

abbrev pub invariant-loop-character : goal.invariant-loop-character
invariant-loop-character l =
    context_after_all l.self l.context (drop l.character-index l.chars) ≡ context_after_all l.fn.self l.fn.here l.fn.chars
