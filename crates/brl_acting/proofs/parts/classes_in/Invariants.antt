use Rattle.std.proofs.Common.{◌≡◌, map, take}
use Rattle.brl_acting.specs.Words.{classes_of_prefixes}
use Rattle.brl_acting.proofs.parts.classes_in.Given as goal

abbrev pub invariant-loop-word : goal.invariant-loop-word
invariant-loop-word l = map (λ word. word.now) l.classes.items ≡ classes_of_prefixes (map (λ word. word.now) (take l.word-index l.prefixes))
