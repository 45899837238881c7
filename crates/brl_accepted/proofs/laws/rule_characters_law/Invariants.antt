use Rattle.std.proofs.Common.{◌≡◌, All, take, true}
use Rattle.std.specs.Str.{all_scalars}
use Rattle.brl_accepted.proofs.laws.rule_characters_law.Given as goal

-- the characters of the rules so far are scalar values
abbrev pub invariant-loop-rule : goal.invariant-loop-rule
invariant-loop-rule l = All (λ rule. all_scalars rule.chars ≡ true) (take l.rule-index l.rules)
