use Rattle.std.proofs.Common.{◌≡◌, ◌∙◌, ◌+◌, ◌≤◌, ℕ, List, arith, rules, subst, subst₂, sym}
use Rattle.std.specs.BTreeMap.{btree_map_len}
use Rattle.brl_closure.specs.declared.search.texts.Texts.{Texts}
use Rattle.brl_divergence.specs.Listed.{IsDivergence}
use Rattle.brl_divergence.proofs.Rules.{all_insert}
use Rattle.brl_dues.specs.Steps.{dues_machine}
use Rattle.brl_pairs.specs.Runs.{KeepsLaws}
use Rattle.brl_rules.specs.TableView.{TableView}
use Rattle.brl_search.specs.Clashes.{IsRuleClash}
use Rattle.brl_search.proofs.KnownClashes.{divergence}
use Rattle.brl_without.specs.Without.{without}
use Rattle.brl_search.proofs.table_clashes.texts_of.Goals as goal

pub loop-it-preserved : goal.loop-it-preserved
loop-it-preserved c =
    let left_out = c.args.left_out.now in
    let t = c.args.table.now in
    let it = c.it-item.result in
    let laws = subst₂ (λ (cs : List ℕ) (w : TableView). KeepsLaws (without cs (dues_machine w))) c.new-machine.ensures.left_out (c.new-machine.ensures.machine ∙ c.new-dues.ensures.table) c.start.ensures.laws in
    let is = subst (IsRuleClash left_out t) (sym c.it-item.is) (c.requires c.loop-it.it-index it c.loop-it-test.true) in
    let texts : Texts = record { left = c.in_ok-to_vec.field-0; right = c.in_ok-to_vec-2.field-0 } in
    let left : texts.left.items ≡ it.clash.left = search rules in
    let right : texts.right.items ≡ it.clash.right = search rules in
    let more : btree_map_len c.insert.new.self ≤ btree_map_len c.loop-it.list + 1 = search rules in
    record {
      listed = record {
        ascending = c.insert.ensures.ordered;
        divergences = rw c.in_ok-insert.ensures.entries
            (all_insert (it.lesser, it.greater) texts (IsDivergence (without left_out (dues_machine t))) c.loop-it.list.entries c.loop-it.invariant.listed.divergences
            (divergence left_out t laws c.dues_trace_law.ensures.diverge it is texts left right));
      };
      few = omega (arith, more, c.loop-it.invariant.few);
    }
