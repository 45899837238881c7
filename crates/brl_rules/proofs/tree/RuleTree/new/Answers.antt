use Rattle.std.proofs.Common.{refl, ap, ◌∙◌, ◌++◌, ◌∷◌, []}
use Rattle.brl_rules.specs.declared.tree.Node.{Node}
use Rattle.brl_rules.proofs.TreeNodes.{IsBare, bare}
use Rattle.brl_rules.proofs.tree.RuleTree.new.Goals.{In_ok-chains}
use Rattle.brl_rules.proofs.tree.RuleTree.new.Goals as goal

made : (c : In_ok-chains) → IsBare (record { nodes = c.push.new.self.items; chains = c.in_ok-chains.chains.items })
made c =
    let root : Node = record { parent = 0; mark = 0; next = 0; rules = c.new.result } in
    bare root refl refl c.new.ensures.items c.args.chains c.push.new.self.items c.in_ok-chains.chains.items
    (c.in_ok-push.ensures.items ∙ ap (λ nodes. nodes ++ root ∷ []) c.new-nodes.ensures.items) (c.in_ok-chains.ensures.items_if_clones_equal (λ y e. e))

pub invariant_of-result : goal.invariant_of-result
invariant_of-result c = (made c).is

pub returns-clause-empty : goal.returns-clause-empty
returns-clause-empty c = (made c).ends
