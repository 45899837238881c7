use Rattle.std.proofs.Common.{IsTrue, not, rules, subst, sym}
use Rattle.std.proofs.lemmas.Fn.{filter_same}
use Rattle.std.proofs.lemmas.List.Elements.{All-filter}
use Rattle.std.specs.List.{list_any}
use Rattle.std.specs.Prelude.{All}
use Rattle.brl_states.specs.contracts.due.DuePartialEq.TheImpl.{eq-value}
use Rattle.brl_states.specs.declared.due.Due.{Due}
use Rattle.brl_states.specs.Order.{is_proper}
use Rattle.brl_dues.proofs.sharing.new_to.Goals as goal

pub returns-clause-new : goal.returns-clause-new
returns-clause-new c = filter_same _ _ _ (λ x b f k. search rules) _ _ c.retain.ensures.filtered

pub returns-clause-proper : goal.returns-clause-proper
returns-clause-proper c =
    subst (All (λ (due : Due). IsTrue (is_proper due))) (sym (filter_same _ _ _ (λ x b f k. search rules) _ _ c.retain.ensures.filtered))
    (All-filter (λ (due : Due). not (list_any (eq-value.it due) c.args.owed.now)) (λ (due : Due). IsTrue (is_proper due)) c.args.left.items c.requires)
