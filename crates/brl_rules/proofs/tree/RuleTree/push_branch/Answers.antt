use Rattle.std.proofs.Common.{refl, sym, ap, ◌∙◌, ◌≡◌, ◌<◌, subst, length, arith, None}
use Rattle.std.specs.Prelude.{slice_index_or, slice_set}
use Rattle.std.proofs.lemmas.List.{get_or_read}
use Rattle.brl_rules.specs.Tree.{Tree, branch_of, chain_of}
use Rattle.brl_rules.proofs.TreeNodes.{Grows, grows}
use Rattle.brl_rules.proofs.tree.RuleTree.push_branch.Goals.{In_ok-push}
use Rattle.brl_rules.proofs.tree.RuleTree.push_branch.Goals as goal

-- the tree has the new branch
grown : (c : In_ok-push)
    → Grows c.args.self.now (record { nodes = c.push.new.self.items; chains = slice_set c.self.inside.chains.items c.chain_of_branch-chain.result c.len-number.result }) c.args.node c.args.mark
grown c =
    let chains = c.self.inside.chains.items in
    let chain = c.chain_of_branch-chain.ensures.chain in
    let long : length chains ≡ 16384 = ap (λ (tree : Tree). length tree.chains) c.self.view_is ∙ c.requires.chains in
    let within : c.chain_of_branch-chain.result < length chains = omega (arith, c.chain_of_branch-chain.ensures.within, long) in
    let count : c.len-number.result ≡ length c.self.inside.nodes.items = omega (arith, c.len-number.ensures, c.self.inside.nodes.ok) in
    subst (λ old. Grows old (record { nodes = c.push.new.self.items; chains = slice_set chains c.chain_of_branch-chain.result c.len-number.result }) c.args.node c.args.mark) c.self.view_is
    (grows (record { nodes = c.self.inside.nodes.items; chains = chains }) c.self.invariant long c.args.node c.args.mark _
    (subst (λ (tree : Tree). c.args.node < length tree.nodes) (sym c.self.view_is) c.requires.within)
    (subst (λ tree. branch_of tree c.args.node c.args.mark ≡ None) (sym c.self.view_is) c.requires.none) refl refl
    (get_or_read chains _ _ within c.index.ensures 0 ∙ ap (λ chain. slice_index_or chains chain 0) chain) c.new.ensures.items c.push.new.self.items _ c.in_ok-push.ensures.items
    (ap (λ chain. slice_set chains chain c.len-number.result) chain ∙ ap (slice_set chains (chain_of c.args.node c.args.mark)) count))

pub returns-clause-kept : goal.returns-clause-kept
returns-clause-kept c = (grown (goal.at.returns-clause-kept c).In_ok-push).kept

pub returns-clause-ends : goal.returns-clause-ends
returns-clause-ends c = (grown (goal.at.returns-clause-ends c).In_ok-push).ends
