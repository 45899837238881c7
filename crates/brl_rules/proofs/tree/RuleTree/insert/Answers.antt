use Rattle.std.proofs.Common.{ℕ, ◌+◌, ◌<◌, ◌≡◌, List, length, take, get_or, refl, arith, sym, ◌∙◌, ap, take_all, Some}
use Rattle.std.specs.Prelude.{slice_get}
use Rattle.std.proofs.lemmas.List.{take_more}
use Rattle.std.proofs.lemmas.Option.{slice_get_read}
use Rattle.brl_rules.specs.declared.tree.Node.{Node}
use Rattle.brl_rules.specs.Tree.{Tree, branch_of, ends_at, node_at, with_rule, IsTree}
use Rattle.brl_rules.proofs.TreeNodes.{ends-changed, path-more, path-within, tree-changed}
use Rattle.brl_rules.proofs.tree.RuleTree.insert.Goals.{in_Some-branch, in_None-branch+in_ok-node-in_None-branch}
use Rattle.brl_rules.proofs.tree.RuleTree.insert.Goals as goal

-- the walk is one character further
further : (tree : Tree) (chars : List ℕ) (k node branch c : ℕ) → k < length chars → c ≡ get_or chars k c → node_at tree 0 (take k chars) ≡ Some node → branch_of tree node c ≡ Some branch
    → node_at tree 0 (take (k + 1) chars) ≡ Some branch
further tree chars k node branch c within c-is path is =
    ap (node_at tree 0) (take_more chars k c within) ∙ path-more tree 0 (take k chars) node (get_or chars k c) branch path (ap (branch_of tree node) (sym c-is) ∙ is)

-- the node that is changed
there : (tree shown : Tree) → tree ≡ shown → IsTree tree → (at : List ℕ) (node : ℕ) → node_at shown 0 at ≡ Some node → (n : Node) → n ≡ get_or tree.nodes node n → slice_get tree.nodes node ≡ Some n
there tree shown same is at node path n n-is =
    slice_get_read tree.nodes (length tree.nodes) node n refl (path-within tree is at 0 node is.some (ap (λ t. node_at t 0 at) same ∙ path)) n-is

pub push_branch-requires-clause-within : goal.push_branch-requires-clause-within
push_branch-requires-clause-within c =
    let is = c.in_None-branch.ensures.tree in
    path-within c.loop-character.self is (take c.loop-character.character-index c.args.chars.now) 0 c.loop-character.node is.some c.loop-character.invariant.path

pub loop-character-preserved : goal.loop-character-preserved
loop-character-preserved c =
    let chars = c.args.chars.now in
    let k = c.loop-character.character-index in
    let x = c.character-item.result in
    elim c.match-branch.branch [
      | in_Some-branch w ↦
          let path = further c.loop-character.self chars k c.loop-character.node w.in_Some-branch.branch x c.loop-character-test.true c.character-item.is c.loop-character.invariant.path
          (sym w.in_Some-branch.ensures.branch) in
          record {
            path = ap (λ t. node_at t 0 (take (k + 1) chars)) w.self-is ∙ path ∙ ap (λ n. Some n) (sym w.node-is);
            chains = ap (λ (t : Tree). length t.chains) w.self-is ∙ c.loop-character.invariant.chains;
            ends = λ at. ap (λ t. ends_at t 0 at) w.self-is ∙ c.loop-character.invariant.ends at;
          }
      | in_None-branch+in_ok-node-in_None-branch w ↦
          let grown = w.in_ok-node-in_None-branch.ensures in
          let path = further w.push_branch.new.self chars k c.loop-character.node w.in_ok-node-in_None-branch.node x c.loop-character-test.true c.character-item.is
          (grown.kept (take k chars) c.loop-character.node c.loop-character.invariant.path) grown.branch in
          record {
            path = ap (λ t. node_at t 0 (take (k + 1) chars)) w.self-is ∙ path ∙ ap (λ n. Some n) (sym w.node-is);
            chains = ap (λ (t : Tree). length t.chains) w.self-is ∙ grown.chains;
            ends = λ at. ap (λ t. ends_at t 0 at) w.self-is ∙ grown.ends at ∙ c.loop-character.invariant.ends at;
          }
    ]

pub index_mut-requires : goal.index_mut-requires
index_mut-requires c =
    let tree : Tree = record { nodes = c.self.inside.nodes.items; chains = c.self.inside.chains.items } in
    let path = ap (λ t. node_at t 0 (take c.loop-character.character-index c.args.chars.now)) c.self.view_is ∙ c.loop-character.invariant.path in
    let within : c.loop-character.node < length c.self.inside.nodes.items = path-within tree c.self.invariant _ 0 c.loop-character.node c.self.invariant.some path in
    omega (arith, within, c.self.inside.nodes.ok)

pub invariant_of-self : goal.invariant_of-self
invariant_of-self c =
    let tree : Tree = record { nodes = c.self.inside.nodes.items; chains = c.self.inside.chains.items } in
    tree-changed tree c.self.invariant c.loop-character.node c.index_mut.result.now _
    (there tree c.loop-character.self c.self.view_is c.self.invariant _ c.loop-character.node c.loop-character.invariant.path c.index_mut.result.now c.index_mut.ensures.value) refl refl refl

pub invariant_of-self-2 : goal.invariant_of-self-2
invariant_of-self-2 c =
    let tree : Tree = record { nodes = c.self.inside.nodes.items; chains = c.self.inside.chains.items } in
    tree-changed tree c.self.invariant c.loop-character.node c.index_mut.result.now _
    (there tree c.loop-character.self c.self.view_is c.self.invariant _ c.loop-character.node c.loop-character.invariant.path c.index_mut.result.now c.index_mut.ensures.value) refl refl refl

pub returns-clause-ends : goal.returns-clause-ends
returns-clause-ends c = λ at.
    let tree : Tree = record { nodes = c.self.inside.nodes.items; chains = c.self.inside.chains.items } in
    let node = c.loop-character.node in
    let path = ap (node_at c.loop-character.self 0) (sym (take_all c.loop-character.character-index c.args.chars.now c.loop-character-test.false)) ∙ c.loop-character.invariant.path in
    ends-changed tree c.self.invariant node c.index_mut.result.now _
    (there tree c.loop-character.self c.self.view_is c.self.invariant _ node c.loop-character.invariant.path c.index_mut.result.now c.index_mut.ensures.value) refl refl refl
    c.args.number c.in_ok-push.ensures.items c.args.chars.now (ap (λ t. node_at t 0 c.args.chars.now) c.self.view_is ∙ path) at
    ∙ ap (with_rule c.args.chars.now c.args.number at) (ap (λ t. ends_at t 0 at) c.self.view_is ∙ c.loop-character.invariant.ends at)
