use Rattle.std.proofs.Common.{◌≡◌, All, List, ℕ, subst, take_all, true}
use Rattle.std.specs.Str.{all_scalars}
use Rattle.std.proofs.lemmas.List.Elements.{All-more}
use Rattle.brl_rules.specs.declared.rule.Rule.{Rule}
use Rattle.brl_accepted.proofs.laws.rule_characters_law.Goals as goal

abbrev AreScalars : Rule → Type 0
AreScalars rule = all_scalars rule.chars ≡ true

pub loop-rule-preserved : goal.loop-rule-preserved
loop-rule-preserved c =
    All-more AreScalars c.args.rules.now c.loop-rule.rule-index c.rule-item.result c.loop-rule-test.true c.loop-rule.invariant
    (subst AreScalars c.rule-item.is (subst (λ (cs : List ℕ). all_scalars cs ≡ true) c.as_slice.ensures c.characters_law.ensures))

pub returns : goal.returns
returns c = subst (All AreScalars) (take_all c.loop-rule.rule-index c.args.rules.now c.loop-rule-test.false) c.loop-rule.invariant
