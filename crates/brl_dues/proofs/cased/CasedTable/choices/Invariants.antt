use Rattle.std.proofs.Common.{◌≡◌, ◌-◌, drop, length}
use Rattle.brl_dues.specs.Capitals.{choices}
use Rattle.brl_dues.proofs.cased.CasedTable.choices.Given as goal

-- the choices for the last characters
abbrev pub invariant-loop-done : goal.invariant-loop-done
invariant-loop-done l = l.texts.items ≡ choices l.self (drop (length l.chars - l.done) l.chars)
