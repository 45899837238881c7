use Rattle.std.proofs.Common.{subst}
use Rattle.std.proofs.lemmas.List.Elements.{All-pop}
use Rattle.brl_dues.specs.Steps.{dues_machine}
use Rattle.brl_pairs.specs.Runs.{IsExact}
use Rattle.brl_rules.specs.TableView.{TableView}
use Rattle.brl_without.specs.Without.{without}
use Rattle.brl_search.specs.Clashes.{IsRuleClash}
use Rattle.brl_search.proofs.RuleClashes.{rule_clash, texts_clash_at}
use Rattle.brl_search.proofs.table_clashes.rule_clash.Goals as goal

pub returns-in-Some-clause-known : goal.returns-in-Some-clause-known
returns-in-Some-clause-known c =
    (All-pop (IsRuleClash c.args.left_out.now c.args.table.now) c.args.known.now.items c.take_at.new.clashes.items c.take_at.result c.take_at.ensures.taken c.requires.known).0

pub small_clash_of-requires : goal.small_clash_of-requires
small_clash_of-requires c =
    let left_out = c.args.left_out.now in
    let exact = subst (λ (t : TableView). IsExact (dues_machine t) → IsExact (without left_out (dues_machine t))) c.new-dues.ensures.table (c.exact_without_law.ensures left_out) c.exact_law.ensures in
    texts_clash_at left_out c.args.table.now exact c.args.rules c.args.texts c.requires.texts c.dues_trace_law.ensures.diverge

pub returns-clause-clash : goal.returns-clause-clash
returns-clause-clash c =
    let left_out = c.args.left_out.now in
    let exact = subst (λ (t : TableView). IsExact (dues_machine t) → IsExact (without left_out (dues_machine t))) c.new-dues.ensures.table (c.exact_without_law.ensures left_out) c.exact_law.ensures in
    let done = c.in_ok-clash.ensures in
    rule_clash left_out c.args.table.now exact c.args.rules c.args.texts c.requires.texts c.in_ok-clash.clash done.left done.right done.clash done.diverge done.small
