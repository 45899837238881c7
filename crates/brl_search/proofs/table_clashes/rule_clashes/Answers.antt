use Rattle.std.proofs.Common.{◌≡◌, ◌∷◌, ◌++◌, ◌∙◌, All, List, sym, ap, subst}
use Rattle.std.proofs.lemmas.List.Elements.{All-push}
use Rattle.brl_divergence.specs.Listed.{IsDivergence, rules_of}
use Rattle.brl_dues.specs.Steps.{dues_machine}
use Rattle.brl_without.specs.Without.{without}
use Rattle.brl_search.specs.Clashes.{IsRuleClash, rules_of_clashes}
use Rattle.brl_search.specs.declared.table_clashes.RuleClash.{RuleClash}
use Rattle.brl_search.proofs.RuleClashes.{first_left, one_more_rule}
use Rattle.brl_search.proofs.table_clashes.rule_clashes.Goals.{In-Some}
use Rattle.brl_search.proofs.table_clashes.rule_clashes.Goals as goal

-- the first entry that is left, and the others
removal : (c : In-Some) → c.loop-rules.rest.entries ≡ (c.in-Some.rules, c.in-Some.texts) ∷ c.pop_first.new.self.entries
removal c = c.in-Some.ensures.removal

-- the first entry is a divergence, and so are the others
left : (c : In-Some) → IsDivergence (without c.args.left_out.now (dues_machine c.args.table.now)) (c.in-Some.rules, c.in-Some.texts)
    × All (IsDivergence (without c.args.left_out.now (dues_machine c.args.table.now))) c.pop_first.new.self.entries
left c =
    first_left (IsDivergence (without c.args.left_out.now (dues_machine c.args.table.now))) c.loop-rules.rest.entries c.pop_first.new.self.entries (c.in-Some.rules, c.in-Some.texts) (removal c) c.loop-rules.invariant.rest

pub rule_clash-requires-clause-texts : goal.rule_clash-requires-clause-texts
rule_clash-requires-clause-texts c = (left (goal.at.rule_clash-requires-clause-texts c).In-Some).0

pub loop-rules-preserved : goal.loop-rules-preserved
loop-rules-preserved c =
    let here = (goal.at.loop-rules-preserved c).In-Some in
    let done = c.loop-rules.clashes.items in
    let it = c.in_ok-clash.clash in
    record {
      known = c.in_ok-clash.ensures.known;
      each = subst (All (IsRuleClash c.args.left_out.now c.args.table.now)) (sym c.in_ok-push.ensures.items)
          (All-push (IsRuleClash c.args.left_out.now c.args.table.now) done it c.loop-rules.invariant.each c.in_ok-clash.ensures.clash);
      rest = (left here).1;
      rules = ap (λ (l : List RuleClash). rules_of_clashes l ++ rules_of c.pop_first.new.self) c.in_ok-push.ensures.items
          ∙ one_more_rule done it (c.in-Some.rules, c.in-Some.texts) c.loop-rules.rest.entries c.pop_first.new.self.entries (rules_of c.args.list) (removal here) c.in_ok-clash.ensures.rules c.loop-rules.invariant.rules;
    }
