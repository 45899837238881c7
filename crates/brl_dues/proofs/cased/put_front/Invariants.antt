use Rattle.std.proofs.Common.{◌≡◌, ◌∷◌, ◌++◌, map, take}
use Rattle.brl_dues.proofs.cased.put_front.Given as goal

abbrev pub invariant-loop-text : goal.invariant-loop-text
invariant-loop-text l = l.found.items ≡ l.fn.found.items ++ map (λ text. l.character ∷ text) (take l.text-index l.texts)
