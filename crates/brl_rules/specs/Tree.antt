-- Internal. The tree of a table's rules: which rules have just the given characters.
use Rattle.std.specs.Prelude.{ℕ, zero, suc, ◌+◌, ◌-◌, ◌*◌, ◌%◌, ◌<◌, ◌≤◌, ◌≡◌, Bool, true, false, ◌&&◌, ◌==◌, List, [], ◌∷◌, ◌++◌, length, slice_get, slice_index_or, Option, Some, None, if◌then◌else◌}
use Rattle.std.specs.Option.{option_map_or}
use Rattle.brl_rules.specs.declared.rule.Rule.{Rule}
use Rattle.brl_rules.specs.declared.pages.Pages.{Pages}
use Rattle.brl_rules.specs.declared.tree.Node.{Node}
use Rattle.brl_rules.specs.TableView.{TableView}
use Rattle.brl_rules.specs.Text.{classes_of, fold_of, is_capital}
use Rattle.brl_rules.specs.Limits.{IsTable}
use Rattle.brl_rules.specs.Pages.{ArePagesOf}

-- the nodes by their numbers, and the number of the first node of each chain, 0 where it has none;
-- a tree without rules has no chains
pub record Tree : Type 0 where
  pub nodes : List Node
  pub chains : List ℕ

-- the chain of the branch to which a character leads from a node
abbrev pub chain_of : ℕ → ℕ → ℕ
chain_of node mark = (node % 16384 * 37 + mark) % 16384

-- whether a character leads from a node to this one
abbrev pub is_branch : ℕ → ℕ → Node → Bool
is_branch node mark branch = (branch.mark == mark) && (branch.parent == node)

-- the first of the node with this number and those after it in its chain to which a character
-- leads from a node, of at most the given number of them
abbrev pub found_in : List Node → ℕ → ℕ → ℕ → ℕ → Option ℕ
found_in nodes most node mark zero = None
found_in nodes zero node mark (suc k) = None
found_in nodes (suc most) node mark (suc k) =
    option_map_or (λ n. if is_branch node mark n then Some (suc k) else found_in nodes most node mark n.next) (slice_get nodes (suc k)) None

-- the first node of the chain of a branch
abbrev pub first_of : Tree → ℕ → ℕ → ℕ
first_of tree node mark = slice_index_or tree.chains (chain_of node mark) 0

-- the branch to which a character leads from a node
abbrev pub branch_of : Tree → ℕ → ℕ → Option ℕ
branch_of tree node mark = found_in tree.nodes (first_of tree node mark) node mark (first_of tree node mark)

-- the node to which these characters lead from a node
abbrev pub node_at : Tree → ℕ → List ℕ → Option ℕ
node_at tree node [] = Some node
node_at tree node (c ∷ at) = option_map_or (λ branch. node_at tree branch at) (branch_of tree node c) None

-- the numbers of the rules of a node
abbrev pub rules_at : Tree → ℕ → List ℕ
rules_at tree node = option_map_or (λ n. n.rules.items) (slice_get tree.nodes node) []

-- the numbers of the rules to which these characters lead from a node
abbrev pub ends_at : Tree → ℕ → List ℕ → List ℕ
ends_at tree node at = option_map_or (rules_at tree) (node_at tree node at) []

-- a node comes after the one that leads to it, and after the one that follows in its chain
abbrev pub AreOrdered : List Node → Type 0
AreOrdered nodes = (k : ℕ) (n : Node) → slice_get nodes k ≡ Some n → (n.parent ≤ k - 1) × (n.next ≤ k - 1)

-- what every tree keeps
pub record IsTree (tree : Tree) : Type 0 where
  pub some : 0 < length tree.nodes
  pub ordered : AreOrdered tree.nodes
  pub within : (chain : ℕ) → slice_index_or tree.chains chain 0 < length tree.nodes

-- the numbers of the rules at `at`, after a rule with these characters and this number is inserted
-- last
abbrev pub with_rule : List ℕ → ℕ → List ℕ → List ℕ → List ℕ
with_rule [] number [] ends = ends ++ number ∷ []
with_rule [] number (c ∷ at) ends = ends
with_rule (x ∷ chars) number [] ends = ends
with_rule (x ∷ chars) number (c ∷ at) ends = if x == c then with_rule chars number at ends else ends

-- the character by which the walk down the tree goes on at this one: in a run of capitals its fold,
-- and none where it isn't a capital
abbrev pub mark_of : TableView → Bool → ℕ → Option ℕ
mark_of t run c = if run then (if is_capital (classes_of t c) then Some (fold_of t c) else None) else Some c

-- these characters are just those
abbrev pub is_just : List ℕ → List ℕ → Bool
is_just [] [] = true
is_just [] (c ∷ at) = false
is_just (x ∷ chars) [] = false
is_just (x ∷ chars) (c ∷ at) = (x == c) && is_just chars at

-- the numbers of the rules that pass a test, in order; rules are numbered from this number on
abbrev pub numbers : (Rule → Bool) → ℕ → List Rule → List ℕ
numbers test number [] = []
numbers test number (r ∷ rules) = if test r then number ∷ numbers test (number + 1) rules else numbers test (number + 1) rules

-- the numbers of the rules that have just these characters, in the order of the rules
abbrev pub ends_of : List Rule → List ℕ → List ℕ
ends_of rules at = numbers (λ r. is_just r.chars at) 0 rules

-- the tree of these rules
abbrev pub IsTreeOf : List Rule → Tree → Type 0
IsTreeOf rules tree = (at : List ℕ) → ends_at tree 0 at ≡ ends_of rules at

-- what every table keeps, with the places of its characters and the tree of its rules
pub record IsIndexed (t : TableView) (pages : Pages) (tree : Tree) : Type 0 where
  pub table : IsTable t
  pub are_pages : ArePagesOf t.characters pages
  pub is_tree : IsTreeOf t.rules tree
