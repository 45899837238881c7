use Rattle.std.proofs.Common.{◌≡◌, ◌≤◌, ◌-◌, false, rules, arith, ap, sym, ◌∙◌, Some, refl}
use Rattle.std.specs.Prelude.{slice_get}
use Rattle.std.proofs.lemmas.Option.{slice_get_read}
use Rattle.brl_rules.specs.Tree.{found_in, is_branch, Tree}
use Rattle.brl_rules.proofs.TreeNodes.{found-next}
use Rattle.brl_rules.proofs.tree.RuleTree.branch.Goals.{Joined-else-branch-mark}
use Rattle.brl_rules.proofs.tree.RuleTree.branch.Goals as goal

there : (c : Joined-else-branch-mark) → slice_get c.self.inside.nodes.items c.loop-number.number ≡ Some c.in_ok-branch.branch.now
there c =
    let look = c.in_ok-branch.ensures.lookup in
    ap (λ nodes. slice_get nodes c.loop-number.number) (sym c.deref-in-loop-number.ensures.value)
    ∙ slice_get_read c.deref-in-loop-number.result.now _ c.loop-number.number c.in_ok-branch.branch.now refl look.3.0 look.1

pub loop-number-smaller : goal.loop-number-smaller
loop-number-smaller c =
    let low : c.in_ok-branch.branch.now.next ≤ c.loop-number.number - 1 = (c.self.invariant.ordered c.loop-number.number c.in_ok-branch.branch.now (there c)).1 in
    omega (arith, low, c.loop-number-test.true)

pub loop-number-preserved : goal.loop-number-preserved
loop-number-preserved c =
    let fails : is_branch c.args.node c.args.mark c.in_ok-branch.branch.now ≡ false = search rules in
    let n = c.in_ok-branch.branch.now in
    ap (λ (tree : Tree). found_in tree.nodes n.next c.args.node c.args.mark n.next) (sym c.self.view_is)
    ∙ found-next c.self.inside.nodes.items c.self.invariant.ordered c.args.node c.args.mark c.loop-number.number n c.loop-number-test.true (there c) fails
    ∙ ap (λ (tree : Tree). found_in tree.nodes c.loop-number.number c.args.node c.args.mark c.loop-number.number) c.self.view_is
    ∙ c.loop-number.invariant
