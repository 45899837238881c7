use Rattle.std.proofs.Common.{◌≡◌, ◌++◌, length}
use Rattle.brl_without.specs.Spans.{spans_from}
use Rattle.brl_without.proofs.span.spans_of.Given as goal

-- the spans so far, and those of the characters that are left
abbrev pub invariant-loop-first : goal.invariant-loop-first
invariant-loop-first l = spans_from 0 l.characters ≡ l.spans.items ++ spans_from 0 l.left

abbrev pub decreases-loop-first : goal.decreases-loop-first
decreases-loop-first l = length l.left
