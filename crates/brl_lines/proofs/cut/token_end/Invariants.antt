use Rattle.std.proofs.Common.{◌≡◌, ℕ, ◌<◌, ◌≤◌, false, get_or}
use Rattle.brl_lines.specs.Tokens.{is_gap}
use Rattle.brl_lines.proofs.cut.token_end.Given as goal

abbrev pub invariant-loop-at : goal.invariant-loop-at
invariant-loop-at l = (k : ℕ) → l.from ≤ k → k < l.at → is_gap (get_or l.text k 0) ≡ false
