use Rattle.std.proofs.Common.{◌≡◌, map, take}
use Rattle.brl_clashes.proofs.screen.lines_of.Given as goal

-- the kinds so far have lines
abbrev pub invariant-loop-kind : goal.invariant-loop-kind
invariant-loop-kind l = map (λ line. line.kind) l.lines.items ≡ take l.kind-index l.lined
