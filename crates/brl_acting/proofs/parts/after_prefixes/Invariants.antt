use Rattle.std.proofs.Common.{◌≡◌, length, map}
use Rattle.brl_acting.specs.Words.{after_prefixes}
use Rattle.brl_acting.proofs.parts.after_prefixes.Given as goal

abbrev pub invariant-loop-word : goal.invariant-loop-word
invariant-loop-word l = after_prefixes (map (λ word. word.now) l.rest) ≡ after_prefixes (map (λ word. word.now) l.words)

abbrev pub decreases-loop-word : goal.decreases-loop-word
decreases-loop-word l = length l.rest
