use Rattle.std.proofs.Common.{◌≡◌, flat_map, take}
use Rattle.brl_clashes.proofs.sets.rule_characters.Given as goal

-- the characters of the rules so far
abbrev pub invariant-loop-rule : goal.invariant-loop-rule
invariant-loop-rule l = l.characters.items ≡ flat_map (λ rule. rule.chars) (take l.rule-index l.rule-items)
