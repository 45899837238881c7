use Rattle.std.proofs.Common.{◌∙◌, ℕ, List, subst, subst₂, sym, arith}
use Rattle.brl_divergence.specs.Answers.{IsComplete, IsListed}
use Rattle.brl_divergence.specs.Listed.{RuleTexts, rules_of}
use Rattle.brl_dues.specs.Steps.{dues_machine}
use Rattle.brl_pairs.specs.Body.{BodyView}
use Rattle.brl_pairs.specs.Divergence.{IsClosedBut, IsCompleteList}
use Rattle.brl_pairs.specs.Sets.{sets_of}
use Rattle.brl_pairs.specs.Runs.{IsExact}
use Rattle.brl_rules.specs.TableView.{TableView}
use Rattle.brl_states.specs.declared.dues_state.DuesState.{DuesState}
use Rattle.brl_without.specs.Without.{without}
use Rattle.brl_traces.specs.Traces.{ClashesDivergeAtWithout}
use Rattle.brl_search.proofs.RuleClashes.{as_many_rules, over_limit}
use Rattle.brl_search.proofs.table_clashes.clashes_of.Goals as goal

pub rule_clashes-requires-clause-list : goal.rule_clashes-requires-clause-list
rule_clashes-requires-clause-list c = (rw c.in-Complete.is at c.requires.divergences.1).0

pub rule_clashes-requires-in-Partial-clause-list : goal.rule_clashes-requires-in-Partial-clause-list
rule_clashes-requires-in-Partial-clause-list c = (rw c.in-Partial.is at c.requires.divergences.1).0

pub returns-in_ok-list-in-Complete : goal.returns-in_ok-list-in-Complete
returns-in_ok-list-in-Complete c limit divergences =
    let t = c.args.table.now in
    let left_out = c.args.left_out.now in
    let list = c.in-Complete.list in
    let rules = c.in_ok-list-in-Complete.ensures.rules in
    let are = rw c.in-Complete.is at divergences in
    let exact : IsExact (without left_out (dues_machine t)) = subst (λ (w : TableView). IsExact (dues_machine w) → IsExact (without left_out (dues_machine w))) c.new-dues.ensures.table (c.exact_without_law.ensures left_out) c.exact_law.ensures in
    let law = subst₂ (λ (ds : List ℕ) (w : TableView). IsExact (without ds (dues_machine w)) → (most : ℕ) (it : RuleTexts) (body : BodyView DuesState) → IsListed (without ds (dues_machine w)) it
    → IsComplete (without ds (dues_machine w)) most it body → IsCompleteList (without ds (dues_machine w)) (rules_of it)) c.new-machine.ensures.left_out (c.new-machine.ensures.machine ∙ c.new-dues.ensures.table) c.complete_list_law.ensures in
    let complete = law exact limit list c.in-Complete.body are.0 are.2 in (
      c.in_ok-list-in-Complete.ensures.clashes,
      record {
        no_other = subst (λ (l : List (ℕ × ℕ)). ClashesDivergeAtWithout left_out l t) (sym rules) (c.dues_divergence_law.ensures.without left_out (rules_of list) complete.no_other);
        closed = subst (λ (l : List (ℕ × ℕ)). IsClosedBut (without left_out (dues_machine t)) l (sets_of c.in-Complete.body)) (sym rules) are.2.closed;
        complete = subst (IsCompleteList (without left_out (dues_machine t))) (sym rules) complete;
        states = are.2.states;
        pairs = are.2.pairs;
        order = are.2.order;
        within = are.2.within;
        few_rules = let many = as_many_rules c.in_ok-list-in-Complete.list.items list rules in omega (arith, many, are.1);
      },
    )

pub returns-in_ok-list-in-Partial : goal.returns-in_ok-list-in-Partial
returns-in_ok-list-in-Partial c limit divergences =
    let are = rw c.in-Partial.is at divergences in (
      c.in_ok-list-in-Partial.ensures.clashes,
      over_limit c.args.left_out.now c.args.table.now limit _ c.in-Partial.list c.in-Partial.states c.in-Partial.pairs c.in_ok-list-in-Partial.ensures.rules are.1 are.2,
    )
