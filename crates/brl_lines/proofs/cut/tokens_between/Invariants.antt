use Rattle.std.proofs.Common.{◌-◌, ◌≡◌, ◌≤◌, ◌<◌, ◌++◌, map, false, get_or}
use Rattle.std.specs.Str.{IsCharBoundary}
use Rattle.brl_lines.specs.Rows.{piece}
use Rattle.brl_lines.specs.Tokens.{tokens, token_of, is_gap}
use Rattle.brl_lines.specs.Views.{token_view}
use Rattle.brl_lines.proofs.cut.tokens_between.Given as goal

abbrev pub invariant-loop-at : goal.invariant-loop-at
invariant-loop-at l = record {
  to : l.at ≤ l.to;
  boundary : IsCharBoundary l.text l.at;
  mark : l.at < l.to → is_gap (get_or l.text l.at 0) ≡ false;
  so_far : map token_view l.tokens.items ++ map token_of (tokens (piece l.text l.at l.to)) ≡ map token_of (tokens (piece l.text l.from l.to));
}

abbrev pub decreases-loop-at : goal.decreases-loop-at
decreases-loop-at l = l.to - l.at
