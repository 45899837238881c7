use Rattle.std.proofs.Common.{◌≡◌, ℕ, List, drop}
use Rattle.brl_rules.specs.Infos.{AreInfosOf}
use Rattle.brl_rules.specs.Text.{context_after_all}
use Rattle.brl_rules.proofs.table.Table.context_after_infos.Given as goal

abbrev pub invariant-loop-info : goal.invariant-loop-info
invariant-loop-info l =
    (chars : List ℕ) → AreInfosOf l.fn.self chars l.infos →
    context_after_all l.fn.self l.context (drop l.info-index chars) ≡ context_after_all l.fn.self l.fn.here chars
