use Rattle.std.proofs.Common.{◌≡◌, ◌∷◌, ◌+◌, drop, sym, ap, ◌∙◌}
use Rattle.std.proofs.Math.ListN.{drop_of_length-le}
use Rattle.std.proofs.lemmas.List.{drop_more}
use Rattle.brl_rules.specs.Tree.{ends_at, with_rule}
use Rattle.brl_rules.proofs.TreeContents.{inserted, inserted-all}
use Rattle.brl_rules.proofs.tree.RuleTree.of_rules.Goals as goal

pub loop-number-init : goal.loop-number-init
loop-number-init c = record {
  chains = c.in_ok-tree.ensures.chains;
  ends = λ at. ap (inserted at 0 c.args.rules.now) (c.in_ok-tree.ensures.empty at) ∙ inserted-all at c.args.rules.now;
}

pub loop-number-preserved : goal.loop-number-preserved
loop-number-preserved c =
    let all = c.args.rules.now in
    let n = c.loop-number.number in
    let tree = c.loop-number.tree in
    let rule = c.index-rules-number.result in
    let here : drop n all ≡ rule ∷ drop (n + 1) all = drop_more all n rule c.loop-number-test.true ∙ ap (λ r. r ∷ drop (n + 1) all) (sym c.index-rules-number.is) in
    record {
      chains = c.in_ok-insert.ensures.chains;
      ends = λ at.
          ap (inserted at (n + 1) (drop (n + 1) all)) (c.in_ok-insert.ensures.ends at ∙ ap (λ chars. with_rule chars n at (ends_at tree 0 at)) c.as_slice.ensures)
          ∙ ap (λ rules. inserted at n rules (ends_at tree 0 at)) (sym here)
          ∙ c.loop-number.invariant.ends at;
    }

pub returns : goal.returns
returns c = λ at.
    ap (λ rules. inserted at c.loop-number.number rules (ends_at c.loop-number.tree 0 at)) (sym (drop_of_length-le c.args.rules.now c.loop-number-test.false))
    ∙ c.loop-number.invariant.ends at
