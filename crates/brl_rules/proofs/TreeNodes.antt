-- The nodes of a tree: their chains, the paths that lead to them, and what a new node or a new rule
-- changes.
use Rattle.std.proofs.Common.{ℕ, zero, suc, ◌+◌, ◌-◌, ◌*◌, ◌%◌, ◌<◌, ◌≤◌, ◌≡◌, ◌≢◌, Bool, true, false, cond, ◌&&◌, ◌⊎◌, inl, inr, List, [], ◌∷◌, ◌++◌, length, nat_eq, slice_set, refl, arith, sym, ◌∙◌, ap, Option, Some, None, append_assoc, append-nil, length-append, mod-lt, replicate, subst}
use Rattle.std.specs.Prelude.{slice_get, slice_index_or, option_map}
use Rattle.std.specs.Option.{option_map_or}
use Rattle.std.specs.Cmp.{first_so, second_so}
use Rattle.std.proofs.lemmas.Bool.{cases_eq, cases_order, ne_eqb}
use Rattle.std.proofs.lemmas.Bool.Decides.{nat_tests}
use Rattle.std.proofs.lemmas.Grind.{get_or-set_at}
use Rattle.std.proofs.lemmas.List.{get_or-set_other, length-set}
use Rattle.std.proofs.lemmas.Option.{slice_get_within}
use Rattle.brl_rules.specs.declared.tree.Node.{Node}
use Rattle.brl_rules.specs.Tree.{Tree, is_branch, found_in, first_of, chain_of, branch_of, node_at, rules_at, ends_at, is_just, with_rule, AreOrdered, IsTree}
use Rattle.brl_rules.proofs.Facts.{and-true, some_is, same_number, nat_eq-itself}
use Rattle.brl_rules.proofs.TreeContents.{given, just-itself, just-same, with_rule-is}

-- ---- chains

-- what is found at a node, and after it where it isn't the branch
abbrev found_here : ℕ → ℕ → ℕ → (ℕ → Option ℕ) → Option Node → Option ℕ
found_here node mark number after found = option_map_or (λ n. cond (is_branch node mark n) (Some number) (after n.next)) found None

same_here : (node mark k : ℕ) (f g : ℕ → Option ℕ) (found : Option Node) → ((n : Node) → found ≡ Some n → n.next ≤ k) → ((m : ℕ) → m ≤ k → f m ≡ g m)
    → found_here node mark (suc k) f found ≡ found_here node mark (suc k) g found
same_here node mark k f g None low same = refl
same_here node mark k f g (Some n) low same = ap (λ after. cond (is_branch node mark n) (Some (suc k)) after) (same n.next (low n refl))

-- any number of nodes that is large enough finds the same
pub found-enough : (nodes : List Node) → AreOrdered nodes → (f g node mark number : ℕ) → number ≤ f → number ≤ g → found_in nodes f node mark number ≡ found_in nodes g node mark number
found-enough nodes ordered f g node mark zero hf hg = refl
found-enough nodes ordered zero g node mark (suc k) hf hg = absurd (omega arith)
found-enough nodes ordered (suc f) zero node mark (suc k) hf hg = absurd (omega arith)
found-enough nodes ordered (suc f) (suc g) node mark (suc k) hf hg =
    same_here node mark k (found_in nodes f node mark) (found_in nodes g node mark) (slice_get nodes (suc k)) (λ n is. omega (arith, (ordered (suc k) n is).1))
    (λ m h. found-enough nodes ordered f g node mark m (omega arith) (omega arith))

-- where a node isn't the branch, it is looked for after it
pub found-next : (nodes : List Node) → AreOrdered nodes → (node mark number : ℕ) (n : Node) → 0 < number → slice_get nodes number ≡ Some n → is_branch node mark n ≡ false
    → found_in nodes n.next node mark n.next ≡ found_in nodes number node mark number
found-next nodes ordered node mark zero n some there fails = absurd (omega arith)
found-next nodes ordered node mark (suc k) n some there fails =
    sym (ap (found_here node mark (suc k) (found_in nodes k node mark)) there ∙ ap (λ b. cond b (Some (suc k)) (found_in nodes k node mark n.next)) fails
    ∙ found-enough nodes ordered k n.next node mark n.next (omega (arith, (ordered (suc k) n there).1)) (omega arith))

-- a branch that was found
pub record IsBranch (nodes : List Node) (node mark number : ℕ) : Type 0 where
  pub branch : Node
  pub there : slice_get nodes number ≡ Some branch
  pub is : is_branch node mark branch ≡ true
  pub some : 0 < number

found_or : (nodes : List Node) (node mark k : ℕ) (after : ℕ → Option ℕ) (found : Option Node) → slice_get nodes (suc k) ≡ found → (number : ℕ) → found_here node mark (suc k) after found ≡ Some number
    → ((m : ℕ) → after m ≡ Some number → IsBranch nodes node mark number) → IsBranch nodes node mark number
found_or nodes node mark k after None is number e more = cc
found_or nodes node mark k after (Some n) is number e more = cases (is_branch node mark n) refl e
  where
    cases : (b : Bool) → is_branch node mark n ≡ b → cond b (Some (suc k)) (after n.next) ≡ Some number → IsBranch nodes node mark number
    cases true does e =
        let number-is : suc k ≡ number = some_is (suc k) number e in
        record { branch = n; there = ap (slice_get nodes) (sym number-is) ∙ is; is = does; some = omega (arith, number-is) }
    cases false fails e = more n.next e

found-branch : (nodes : List Node) (f node mark k number : ℕ) → found_in nodes f node mark k ≡ Some number → IsBranch nodes node mark number
found-branch nodes f node mark zero number e = cc
found-branch nodes zero node mark (suc k) number e = cc
found-branch nodes (suc f) node mark (suc k) number e =
    found_or nodes node mark k (found_in nodes f node mark) (slice_get nodes (suc k)) refl number e (λ m. found-branch nodes f node mark m number)

pub branch-is : (tree : Tree) (node mark number : ℕ) → branch_of tree node mark ≡ Some number → IsBranch tree.nodes node mark number
branch-is tree node mark number e = found-branch tree.nodes (first_of tree node mark) node mark (first_of tree node mark) number e

pub branch-within : (tree : Tree) (node mark number : ℕ) → branch_of tree node mark ≡ Some number → number < length tree.nodes
branch-within tree node mark number e = let b = branch-is tree node mark number e in slice_get_within tree.nodes number b.branch b.there

-- the node that a branch comes from, and its mark
pub parent-is : (node mark : ℕ) (n : Node) → is_branch node mark n ≡ true → n.parent ≡ node
parent-is node mark n h = same_number n.parent node (second_so (nat_eq n.mark mark) (nat_eq n.parent node) h)

mark-is : (node mark : ℕ) (n : Node) → is_branch node mark n ≡ true → n.mark ≡ mark
mark-is node mark n h = same_number n.mark mark (first_so (nat_eq n.mark mark) (nat_eq n.parent node) h)

-- a node without branches
pub no-branch : (tree : Tree) → IsTree tree → (node mark : ℕ) → length tree.nodes ≤ node → branch_of tree node mark ≡ None
no-branch tree is node mark past = cases (branch_of tree node mark) refl
  where
    cases : (found : Option ℕ) → branch_of tree node mark ≡ found → found ≡ None
    cases None e = refl
    cases (Some number) e =
        let b = branch-is tree node mark number e in
        let within : number < length tree.nodes = slice_get_within tree.nodes number b.branch b.there in
        absurd (omega (arith, (is.ordered number b.branch b.there).0, parent-is node mark b.branch b.is, b.some))

-- ---- paths

-- the marks from the root to a node, at most this number of them
abbrev path : List Node → ℕ → ℕ → List ℕ
path nodes most zero = []
path nodes zero (suc k) = []
path nodes (suc most) (suc k) = option_map_or (λ n. path nodes most n.parent ++ n.mark ∷ []) (slice_get nodes (suc k)) []

same_path : (k : ℕ) (f g : ℕ → List ℕ) (found : Option Node) → ((n : Node) → found ≡ Some n → n.parent ≤ k) → ((m : ℕ) → m ≤ k → f m ≡ g m)
    → option_map_or (λ n. f n.parent ++ n.mark ∷ []) found [] ≡ option_map_or (λ n. g n.parent ++ n.mark ∷ []) found []
same_path k f g None low same = refl
same_path k f g (Some n) low same = ap (λ xs. xs ++ n.mark ∷ []) (same n.parent (low n refl))

path-enough : (nodes : List Node) → AreOrdered nodes → (f g k : ℕ) → k ≤ f → k ≤ g → path nodes f k ≡ path nodes g k
path-enough nodes ordered f g zero hf hg = refl
path-enough nodes ordered zero g (suc k) hf hg = absurd (omega arith)
path-enough nodes ordered (suc f) zero (suc k) hf hg = absurd (omega arith)
path-enough nodes ordered (suc f) (suc g) (suc k) hf hg =
    same_path k (path nodes f) (path nodes g) (slice_get nodes (suc k)) (λ n is. omega (arith, (ordered (suc k) n is).0))
    (λ m h. path-enough nodes ordered f g m (omega arith) (omega arith))

-- the path to a branch is that to its node, and its mark
path-branch : (nodes : List Node) → AreOrdered nodes → (node mark number : ℕ) → IsBranch nodes node mark number → path nodes number number ≡ path nodes node node ++ mark ∷ []
path-branch nodes ordered node mark zero b = let some = b.some in absurd (omega arith)
path-branch nodes ordered node mark (suc k) b =
    let low : node ≤ k = omega (arith, (ordered (suc k) b.branch b.there).0, parent-is node mark b.branch b.is) in
    ap (λ found. option_map_or (λ (n : Node). path nodes k n.parent ++ n.mark ∷ []) found []) b.there
    ∙ ap (λ parent. path nodes k parent ++ b.branch.mark ∷ []) (parent-is node mark b.branch b.is)
    ∙ ap (λ m. path nodes k node ++ m ∷ []) (mark-is node mark b.branch b.is)
    ∙ ap (λ xs. xs ++ mark ∷ []) (path-enough nodes ordered k node node low (omega arith))

path-leads : (tree : Tree) → AreOrdered tree.nodes → (node : ℕ) (at : List ℕ) (there : ℕ) → node_at tree node at ≡ Some there → path tree.nodes there there ≡ path tree.nodes node node ++ at
path-leads tree ordered node [] there e = ap (λ n. path tree.nodes n n) (sym (some_is node there e)) ∙ sym (append-nil (path tree.nodes node node))
path-leads tree ordered node (c ∷ at) there e = cases (branch_of tree node c) refl e (λ branch. path-leads tree ordered branch at there)
  where
    cases : (found : Option ℕ) → branch_of tree node c ≡ found → option_map_or (λ branch. node_at tree branch at) found None ≡ Some there
        → ((branch : ℕ) → node_at tree branch at ≡ Some there → path tree.nodes there there ≡ path tree.nodes branch branch ++ at)
        → path tree.nodes there there ≡ path tree.nodes node node ++ c ∷ at
    cases None is e more = cc
    cases (Some branch) is e more =
        more branch e ∙ ap (λ xs. xs ++ at) (path-branch tree.nodes ordered node c branch (branch-is tree node c branch is)) ∙ append_assoc (path tree.nodes node node) (c ∷ []) at

-- only one path leads from the root to a node
pub one_path : (tree : Tree) → IsTree tree → (at others : List ℕ) (there : ℕ) → node_at tree 0 at ≡ Some there → node_at tree 0 others ≡ Some there → at ≡ others
one_path tree is at others there e f = sym (path-leads tree is.ordered 0 at there e) ∙ path-leads tree is.ordered 0 others there f

-- a path goes on by a branch
pub path-more : (tree : Tree) (node : ℕ) (at : List ℕ) (there c branch : ℕ) → node_at tree node at ≡ Some there → branch_of tree there c ≡ Some branch → node_at tree node (at ++ c ∷ []) ≡ Some branch
path-more tree node [] there c branch e is =
    ap (λ found. option_map_or (λ b. Some b) found None) (ap (λ n. branch_of tree n c) (some_is node there e) ∙ is)
path-more tree node (x ∷ at) there c branch e is = cases (branch_of tree node x) e (λ b. path-more tree b at there c branch)
  where
    cases : (found : Option ℕ) → option_map_or (λ b. node_at tree b at) found None ≡ Some there
        → ((b : ℕ) → node_at tree b at ≡ Some there → branch_of tree there c ≡ Some branch → node_at tree b (at ++ c ∷ []) ≡ Some branch)
        → option_map_or (λ b. node_at tree b (at ++ c ∷ [])) found None ≡ Some branch
    cases None e more = cc
    cases (Some b) e more = more b e is

-- the rules after a character are those of its branch
pub ends-branch : (tree : Tree) (node c : ℕ) (found : Option ℕ) → found ≡ branch_of tree node c → (at : List ℕ)
    → option_map_or (λ branch. ends_at tree branch at) found [] ≡ ends_at tree node (c ∷ at)
ends-branch tree node c found is at = cases found ∙ ap (λ found. option_map_or (rules_at tree) (option_map_or (λ branch. node_at tree branch at) found None) []) is
  where
    cases : (found : Option ℕ) → option_map_or (λ branch. ends_at tree branch at) found [] ≡ option_map_or (rules_at tree) (option_map_or (λ branch. node_at tree branch at) found None) []
    cases None = refl
    cases (Some branch) = refl

pub path-within : (tree : Tree) → IsTree tree → (at : List ℕ) (node there : ℕ) → node < length tree.nodes → node_at tree node at ≡ Some there → there < length tree.nodes
path-within tree is [] node there within e = omega (arith, within, some_is node there e)
path-within tree is (c ∷ at) node there within e = cases (branch_of tree node c) refl e (λ branch. path-within tree is at branch there)
  where
    cases : (found : Option ℕ) → branch_of tree node c ≡ found → option_map_or (λ branch. node_at tree branch at) found None ≡ Some there
        → ((branch : ℕ) → branch < length tree.nodes → node_at tree branch at ≡ Some there → there < length tree.nodes) → there < length tree.nodes
    cases None is-none e more = cc
    cases (Some branch) found e more = more branch (branch-within tree node c branch found) e

-- ---- the root alone

-- a tree that has no rules
pub record IsBare (tree : Tree) : Type 0 where
  pub is : IsTree tree
  pub ends : (at : List ℕ) → ends_at tree 0 at ≡ []

module _ (root : Node) (parent : root.parent ≡ 0) (next : root.next ≡ 0) (empty : root.rules.items ≡ []) (count : ℕ) where
  abbrev alone : Tree
  alone = record { nodes = root ∷ []; chains = replicate count 0 }

  first-zero : (n k : ℕ) → let none : ℕ = 0 in slice_index_or (replicate n none) k 0 ≡ none
  first-zero zero k = refl
  first-zero (suc n) zero = refl
  first-zero (suc n) (suc k) = first-zero n k

  alone-ordered : (k : ℕ) (n : Node) → slice_get alone.nodes k ≡ Some n → (n.parent ≤ k - 1) × (n.next ≤ k - 1)
  alone-ordered zero n there =
      let is : root ≡ n = some_is root n there in
      (omega (arith, parent, ap (λ (n : Node). n.parent) is), omega (arith, next, ap (λ (n : Node). n.next) is))
  alone-ordered (suc k) n there = cc

  alone-ends : (at : List ℕ) → ends_at alone 0 at ≡ []
  alone-ends [] = empty
  alone-ends (c ∷ at) =
      ap (λ first. option_map_or (rules_at alone) (option_map_or (λ branch. node_at alone branch at) (found_in alone.nodes first 0 c first) None) [])
      (first-zero count (chain_of 0 c))

  pub bare : (nodes : List Node) (chains : List ℕ) → nodes ≡ root ∷ [] → chains ≡ replicate count 0 → IsBare (record { nodes = nodes; chains = chains })
  bare nodes chains nodes-are chains-are =
      subst (λ nodes. IsBare (record { nodes = nodes; chains = chains })) (sym nodes-are)
      (subst (λ chains. IsBare (record { nodes = root ∷ []; chains = chains })) (sym chains-are)
      (record {
        is = record {
          some = omega arith;
          ordered = alone-ordered;
          within = λ chain. omega (arith, first-zero count chain);
        };
        ends = alone-ends;
      }))

-- ---- places of lists

slice_get-left : {X : Type 0} (xs ys : List X) (k : ℕ) → k < length xs → slice_get (xs ++ ys) k ≡ slice_get xs k
slice_get-left [] ys k within = absurd (omega arith)
slice_get-left (x ∷ xs) ys zero within = refl
slice_get-left (x ∷ xs) ys (suc k) within = slice_get-left xs ys k (omega arith)

slice_get-last : {X : Type 0} (xs : List X) (x : X) (k : ℕ) → k ≡ length xs → slice_get (xs ++ x ∷ []) k ≡ Some x
slice_get-last [] x zero is = refl
slice_get-last [] x (suc k) is = absurd (omega arith)
slice_get-last (y ∷ xs) x zero is = absurd (omega arith)
slice_get-last (y ∷ xs) x (suc k) is = slice_get-last xs x k (omega arith)

either_same : {X : Type 0} (b : Bool) (x : X) → x ≡ cond b x x
either_same true x = refl
either_same false x = refl

slice_get-set : {X : Type 0} (xs : List X) (i k : ℕ) (x : X) → slice_get (slice_set xs i x) k ≡ cond (nat_eq k i) (option_map (λ y. x) (slice_get xs k)) (slice_get xs k)
slice_get-set [] i k x = either_same (nat_eq k i) None
slice_get-set (y ∷ xs) zero zero x = refl
slice_get-set (y ∷ xs) zero (suc k) x = rw (ne_eqb (suc k) 0 (omega arith)) refl
slice_get-set (y ∷ xs) (suc i) zero x = rw (ne_eqb 0 (suc i) (omega arith)) refl
slice_get-set (y ∷ xs) (suc i) (suc k) x = let e : nat_eq (suc k) (suc i) ≡ nat_eq k i = grind (arith, nat_tests) in rw e (slice_get-set xs i k x)

-- ---- a new node

chain-low : (node mark : ℕ) → chain_of node mark < 16384
chain-low node mark = mod-lt (node % 16384 * 37 + mark) (omega arith)

-- a tree has a new branch, without rules
pub record Grows (old tree : Tree) (node mark : ℕ) : Type 0 where
  pub is : IsTree tree
  pub chains : length tree.chains ≡ 16384
  pub branch : branch_of tree node mark ≡ Some (length old.nodes)
  pub kept : (at : List ℕ) (there : ℕ) → node_at old 0 at ≡ Some there → node_at tree 0 at ≡ Some there
  pub ends : (at : List ℕ) → ends_at tree 0 at ≡ ends_at old 0 at

module _ (tree : Tree) (is : IsTree tree) (long : length tree.chains ≡ 16384) (node mark : ℕ) (new : Node) (within : node < length tree.nodes) (none : branch_of tree node mark ≡ None)
    (parent : new.parent ≡ node) (named : new.mark ≡ mark) (next : new.next ≡ first_of tree node mark) (empty : new.rules.items ≡ []) where
  -- the tree with the new node
  abbrev grown : Tree
  grown = record { nodes = tree.nodes ++ new ∷ []; chains = slice_set tree.chains (chain_of node mark) (length tree.nodes) }

  abbrev count : ℕ
  count = length tree.nodes

  low_next : (k : ℕ) (n : Node) → slice_get tree.nodes (suc k) ≡ Some n → n.next ≤ k
  low_next k n there = omega (arith, (is.ordered (suc k) n there).1)

  found-before : (f q d number : ℕ) → number < count → found_in grown.nodes f q d number ≡ found_in tree.nodes f q d number
  found-before f q d zero before = refl
  found-before zero q d (suc k) before = refl
  found-before (suc f) q d (suc k) before =
      ap (found_here q d (suc k) (found_in grown.nodes f q d)) (slice_get-left tree.nodes (new ∷ []) (suc k) before)
      ∙ same_here q d k (found_in grown.nodes f q d) (found_in tree.nodes f q d) (slice_get tree.nodes (suc k)) (low_next k) (λ m h. found-before f q d m (omega (arith, before)))

  -- where the chain of a branch begins with the new node
  found-new : (q d : ℕ) → chain_of q d ≡ chain_of node mark → (number : ℕ) → number ≡ count
      → found_in grown.nodes number q d number ≡ cond (is_branch q d new) (Some count) (branch_of tree q d)
  found-new q d same zero is-count = let some = is.some in absurd (omega arith)
  found-new q d same (suc k) is-count =
      let first = is.within (chain_of q d) in
      let low : first_of tree q d ≤ k = omega (arith, first, is-count) in
      let first-is : new.next ≡ first_of tree q d = next ∙ ap (λ chain. slice_index_or tree.chains chain 0) (sym same) in
      ap (found_here q d (suc k) (found_in grown.nodes k q d)) (slice_get-last tree.nodes new (suc k) is-count)
      ∙ ap (λ number. cond (is_branch q d new) (Some number) (found_in grown.nodes k q d new.next)) is-count
      ∙ ap (λ after. cond (is_branch q d new) (Some count) after)
      (ap (found_in grown.nodes k q d) first-is ∙ found-before k q d (first_of tree q d) first ∙ found-enough tree.nodes is.ordered k (first_of tree q d) q d (first_of tree q d) low (omega arith))

  not_new : (q d : ℕ) → (chain_of q d ≡ chain_of node mark → ⊥) → is_branch q d new ≡ false
  not_new q d differ = cases (is_branch q d new) refl
    where
      cases : (b : Bool) → is_branch q d new ≡ b → b ≡ false
      cases false e = refl
      cases true e =
          let q-is : q ≡ node = sym (parent-is q d new e) ∙ parent in
          let d-is : d ≡ mark = sym (mark-is q d new e) ∙ named in
          absurd (differ (ap (λ n. chain_of n d) q-is ∙ ap (chain_of node) d-is))

  branch-grown : (q d : ℕ) → branch_of grown q d ≡ cond (is_branch q d new) (Some count) (branch_of tree q d)
  branch-grown q d = cases (cases_eq (chain_of q d) (chain_of node mark))
    where
      in_chains : chain_of node mark < length tree.chains
      in_chains = omega (arith, long, chain-low node mark)

      cases : (chain_of q d ≡ chain_of node mark) ⊎ (chain_of q d ≢ chain_of node mark) → branch_of grown q d ≡ cond (is_branch q d new) (Some count) (branch_of tree q d)
      cases (inl same) = found-new q d same (first_of grown q d) (get_or-set_at tree.chains (chain_of node mark) (chain_of q d) count 0 same in_chains)
      cases (inr differ) =
          let first-is : first_of grown q d ≡ first_of tree q d = get_or-set_other tree.chains (chain_of node mark) (chain_of q d) count 0 differ in
          ap (λ first. found_in grown.nodes first q d first) first-is ∙ found-before (first_of tree q d) q d (first_of tree q d) (is.within (chain_of q d))
          ∙ ap (λ b. cond b (Some count) (branch_of tree q d)) (sym (not_new q d differ))

  -- the new branch is no other one's
  not_there : (q d : ℕ) → is_branch q d new ≡ true → branch_of tree q d ≡ None
  not_there q d e = ap (λ n. branch_of tree n d) (sym (parent-is q d new e) ∙ parent) ∙ ap (branch_of tree node) (sym (mark-is q d new e) ∙ named) ∙ none

  branch-kept : (q d branch : ℕ) → branch_of tree q d ≡ Some branch → branch_of grown q d ≡ Some branch
  branch-kept q d branch e = branch-grown q d ∙ cases (is_branch q d new) refl
    where
      cases : (b : Bool) → is_branch q d new ≡ b → cond b (Some count) (branch_of tree q d) ≡ Some branch
      cases true does = let gone = not_there q d does in cc
      cases false fails = e

  new_branch : branch_of grown node mark ≡ Some count
  new_branch =
      let at_mark : nat_eq new.mark mark ≡ true = ap (λ m. nat_eq m mark) named ∙ nat_eq-itself mark in
      let at_node : nat_eq new.parent node ≡ true = ap (λ n. nat_eq n node) parent ∙ nat_eq-itself node in
      branch-grown node mark ∙ ap (λ b. cond b (Some count) (branch_of tree node mark)) (and-true (nat_eq new.mark mark) (nat_eq new.parent node) at_mark at_node)

  path-kept : (at : List ℕ) (q there : ℕ) → node_at tree q at ≡ Some there → node_at grown q at ≡ Some there
  path-kept [] q there e = e
  path-kept (c ∷ at) q there e = cases (branch_of tree q c) refl e (λ branch. path-kept at branch there)
    where
      cases : (found : Option ℕ) → branch_of tree q c ≡ found → option_map_or (λ branch. node_at tree branch at) found None ≡ Some there
          → ((branch : ℕ) → node_at tree branch at ≡ Some there → node_at grown branch at ≡ Some there) → node_at grown q (c ∷ at) ≡ Some there
      cases None is e more = cc
      cases (Some branch) is e more = ap (λ found. option_map_or (λ branch. node_at grown branch at) found None) (branch-kept q c branch is) ∙ more branch e

  -- nothing ends at the new node or after it
  ends-new : (at : List ℕ) → ends_at grown count at ≡ []
  ends-new [] = ap (λ found. option_map_or (λ (n : Node). n.rules.items) found []) (slice_get-last tree.nodes new count refl) ∙ empty
  ends-new (c ∷ at) =
      let apart : is_branch count c new ≡ false = no_parent (is_branch count c new) refl in
      let no : branch_of grown count c ≡ None = branch-grown count c ∙ ap (λ b. cond b (Some count) (branch_of tree count c)) apart ∙ no-branch tree is count c (omega arith) in
      ap (λ found. option_map_or (rules_at grown) (option_map_or (λ branch. node_at grown branch at) found None) []) no
    where
      no_parent : (b : Bool) → is_branch count c new ≡ b → b ≡ false
      no_parent false e = refl
      no_parent true e = absurd (omega (arith, parent-is count c new e, parent, within))

  ends-grown : (at : List ℕ) (q : ℕ) → q < count → ends_at grown q at ≡ ends_at tree q at
  ends-grown [] q before = ap (λ found. option_map_or (λ (n : Node). n.rules.items) found []) (slice_get-left tree.nodes (new ∷ []) q before)
  ends-grown (c ∷ at) q before =
      ap (λ found. option_map_or (rules_at grown) (option_map_or (λ branch. node_at grown branch at) found None) []) (branch-grown q c)
      ∙ cases (is_branch q c new) refl (branch_of tree q c) refl (λ branch. ends-grown at branch)
    where
      cases : (b : Bool) → is_branch q c new ≡ b → (found : Option ℕ) → branch_of tree q c ≡ found
          → ((branch : ℕ) → branch < count → ends_at grown branch at ≡ ends_at tree branch at)
          → option_map_or (rules_at grown) (option_map_or (λ branch. node_at grown branch at) (cond b (Some count) found) None) []
          ≡ option_map_or (rules_at tree) (option_map_or (λ branch. node_at tree branch at) found None) []
      cases true does (Some branch) is more = let gone = not_there q c does in cc
      cases true does None is more = ends-new at
      cases false fails None is more = refl
      cases false fails (Some branch) is more = more branch (branch-within tree q c branch is)

  first-within : (chain : ℕ) → slice_index_or grown.chains chain 0 < length grown.nodes
  first-within chain = cases (cases_eq chain (chain_of node mark))
    where
      more : length grown.nodes ≡ count + 1
      more = omega (arith, length-append tree.nodes (new ∷ []))

      cases : (chain ≡ chain_of node mark) ⊎ (chain ≢ chain_of node mark) → slice_index_or grown.chains chain 0 < length grown.nodes
      cases (inl same) =
          let inside : chain_of node mark < length tree.chains = omega (arith, long, chain-low node mark) in
          omega (arith, more, get_or-set_at tree.chains (chain_of node mark) chain count 0 same inside)
      cases (inr differ) = omega (arith, more, get_or-set_other tree.chains (chain_of node mark) chain count 0 differ, is.within chain)

  new-ordered : AreOrdered grown.nodes
  new-ordered k n there = cases (cases_order k count)
    where
      cases : (k ≡ count) ⊎ ((k < count) ⊎ (count < k)) → (n.parent ≤ k - 1) × (n.next ≤ k - 1)
      cases (inr (inl before)) = is.ordered k n (sym (slice_get-left tree.nodes (new ∷ []) k before) ∙ there)
      cases (inl here) =
          let n-is : new ≡ n = some_is new n (sym (slice_get-last tree.nodes new k here) ∙ there) in
          let parent-low : n.parent ≤ k - 1 = omega (arith, ap (λ (n : Node). n.parent) n-is, parent, within, here) in
          let next-low : n.next ≤ k - 1 = omega (arith, ap (λ (n : Node). n.next) n-is, next, is.within (chain_of node mark), here) in
          (parent-low, next-low)
      cases (inr (inr past)) = absurd (omega (arith, slice_get_within grown.nodes k n there, length-append tree.nodes (new ∷ []), past))

  tree-grown : IsTree grown
  tree-grown = record {
    some = omega (arith, length-append tree.nodes (new ∷ []));
    ordered = new-ordered;
    within = first-within;
  }

  pub grows : (nodes : List Node) (chains : List ℕ) → nodes ≡ tree.nodes ++ new ∷ [] → chains ≡ slice_set tree.chains (chain_of node mark) count
      → Grows tree (record { nodes = nodes; chains = chains }) node mark
  grows nodes chains nodes-are chains-are =
      let P : List Node → List ℕ → Type 0 = λ nodes chains. Grows tree (record { nodes = nodes; chains = chains }) node mark in
      subst (λ nodes. P nodes chains) (sym nodes-are) (subst (P grown.nodes) (sym chains-are)
      (record { is = tree-grown; chains = length-set tree.chains (chain_of node mark) count ∙ long; branch = new_branch; kept = λ at there e. path-kept at 0 there e; ends = λ at. ends-grown at 0 is.some }))

-- ---- a new rule

module _ (tree : Tree) (is : IsTree tree) (node : ℕ) (old new : Node) (there : slice_get tree.nodes node ≡ Some old)
    (parent : new.parent ≡ old.parent) (mark : new.mark ≡ old.mark) (next : new.next ≡ old.next) where
  -- the tree with the changed node
  abbrev pub changed : Tree
  changed = record { nodes = slice_set tree.nodes node new; chains = tree.chains }

  -- a node of the changed tree has the parent, the mark and the next node that it had
  at_changed : (k : ℕ) → slice_get changed.nodes k ≡ cond (nat_eq k node) (option_map (λ n. new) (slice_get tree.nodes k)) (slice_get tree.nodes k)
  at_changed k = slice_get-set tree.nodes node k new

  found-same : (q d number : ℕ) (f g : ℕ → Option ℕ) → ((m : ℕ) → f m ≡ g m) → (k : ℕ) → found_here q d number f (slice_get changed.nodes k) ≡ found_here q d number g (slice_get tree.nodes k)
  found-same q d number f g same k = ap (found_here q d number f) (at_changed k) ∙ cases (nat_eq k node) refl (slice_get tree.nodes k) refl
    where
      cases : (b : Bool) → nat_eq k node ≡ b → (found : Option Node) → slice_get tree.nodes k ≡ found
          → found_here q d number f (cond b (option_map (λ n. new) found) found) ≡ found_here q d number g found
      cases true e None is = refl
      cases true e (Some n) is =
          let n-is : n ≡ old = some_is n old (sym is ∙ ap (slice_get tree.nodes) (same_number k node e) ∙ there) in
          ap (λ p. cond (nat_eq new.mark d && nat_eq p q) (Some number) (f new.next)) (parent ∙ ap (λ (n : Node). n.parent) (sym n-is))
          ∙ ap (λ m. cond (nat_eq m d && nat_eq n.parent q) (Some number) (f new.next)) (mark ∙ ap (λ (n : Node). n.mark) (sym n-is))
          ∙ ap (λ after. cond (is_branch q d n) (Some number) after) (ap f (next ∙ ap (λ (n : Node). n.next) (sym n-is)) ∙ same n.next)
      cases false e None is = refl
      cases false e (Some n) is = ap (λ after. cond (is_branch q d n) (Some number) after) (same n.next)

  found-changed : (f q d number : ℕ) → found_in changed.nodes f q d number ≡ found_in tree.nodes f q d number
  found-changed f q d zero = refl
  found-changed zero q d (suc k) = refl
  found-changed (suc f) q d (suc k) = found-same q d (suc k) (found_in changed.nodes f q d) (found_in tree.nodes f q d) (found-changed f q d) (suc k)

  path-changed : (at : List ℕ) (q : ℕ) → node_at changed q at ≡ node_at tree q at
  path-changed [] q = refl
  path-changed (c ∷ at) q =
      ap (λ found. option_map_or (λ branch. node_at changed branch at) found None) (found-changed (first_of tree q c) q c (first_of tree q c))
      ∙ cases (branch_of tree q c) (path-changed at)
    where
      cases : (found : Option ℕ) → ((branch : ℕ) → node_at changed branch at ≡ node_at tree branch at)
          → option_map_or (λ branch. node_at changed branch at) found None ≡ option_map_or (λ branch. node_at tree branch at) found None
      cases None more = refl
      cases (Some branch) more = more branch

  rules-other : (k : ℕ) → k ≢ node → rules_at changed k ≡ rules_at tree k
  rules-other k differ =
      ap (λ found. option_map_or (λ (n : Node). n.rules.items) found [])
      (at_changed k ∙ ap (λ b. cond b (option_map (λ (n : Node). new) (slice_get tree.nodes k)) (slice_get tree.nodes k)) (ne_eqb k node differ))

  rules-here : rules_at changed node ≡ new.rules.items
  rules-here =
      ap (λ found. option_map_or (λ (n : Node). n.rules.items) found [])
      (at_changed node ∙ ap (λ b. cond b (option_map (λ (n : Node). new) (slice_get tree.nodes node)) (slice_get tree.nodes node)) (nat_eq-itself node)
      ∙ ap (λ found. option_map (λ (n : Node). new) found) there)

  -- the rule comes last at the end of the path to the node, and nowhere else
  pub ends-changed : (number : ℕ) → new.rules.items ≡ old.rules.items ++ number ∷ [] → (chars : List ℕ) → node_at tree 0 chars ≡ Some node
      → (at : List ℕ) → ends_at changed 0 at ≡ with_rule chars number at (ends_at tree 0 at)
  ends-changed number more chars leads at =
      ap (λ found. option_map_or (rules_at changed) found []) (path-changed at 0) ∙ cases (node_at tree 0 at) refl ∙ sym (with_rule-is chars number at (ends_at tree 0 at))
    where
      other_path : (node_at tree 0 at ≡ Some node → ⊥) → is_just chars at ≡ false
      other_path differ = by_test (is_just chars at) refl
        where
          by_test : (b : Bool) → is_just chars at ≡ b → b ≡ false
          by_test false e = refl
          by_test true e = absurd (differ (ap (node_at tree 0) (sym (just-same chars at e)) ∙ leads))

      by_node : (k : ℕ) → node_at tree 0 at ≡ Some k → (k ≡ node) ⊎ (k ≢ node) → rules_at changed k ≡ rules_at tree k ++ given (is_just chars at) number
      by_node k e (inl same) =
          let path : chars ≡ at = one_path tree is chars at node leads (e ∙ ap (λ n. Some n) same) in
          let just : is_just chars at ≡ true = ap (is_just chars) (sym path) ∙ just-itself chars in
          let had : rules_at tree node ≡ old.rules.items = ap (λ found. option_map_or (λ (n : Node). n.rules.items) found []) there in
          ap (rules_at changed) same ∙ rules-here ∙ more ∙ ap (λ rules. rules ++ number ∷ []) (sym (ap (rules_at tree) same ∙ had)) ∙ ap (λ b. rules_at tree k ++ given b number) (sym just)
      by_node k e (inr differ) =
          let other : is_just chars at ≡ false = other_path (λ same. differ (some_is k node (sym e ∙ same))) in
          rules-other k differ ∙ sym (append-nil (rules_at tree k)) ∙ ap (λ b. rules_at tree k ++ given b number) (sym other)

      cases : (found : Option ℕ) → node_at tree 0 at ≡ found
          → option_map_or (rules_at changed) found [] ≡ option_map_or (rules_at tree) found [] ++ given (is_just chars at) number
      cases None e = let other : is_just chars at ≡ false = other_path (λ same. let no = e in cc) in ap (λ b. given b number) (sym other)
      cases (Some k) e = by_node k e (cases_eq k node)

  kept-links : (k : ℕ) (n : Node) → slice_get changed.nodes k ≡ Some n → (n.parent ≤ k - 1) × (n.next ≤ k - 1)
  kept-links k n is-there = cases (nat_eq k node) refl (slice_get tree.nodes k) refl (sym (at_changed k) ∙ is-there)
    where
      cases : (b : Bool) → nat_eq k node ≡ b → (found : Option Node) → slice_get tree.nodes k ≡ found → cond b (option_map (λ n. new) found) found ≡ Some n → (n.parent ≤ k - 1) × (n.next ≤ k - 1)
      cases true e None was now = cc
      cases true e (Some m) was now =
          let m-is : m ≡ old = some_is m old (sym was ∙ ap (slice_get tree.nodes) (same_number k node e) ∙ there) in
          let n-is : new ≡ n = some_is new n now in
          let low = is.ordered k m was in (
            omega (arith, low.0, ap (λ (n : Node). n.parent) m-is, ap (λ (n : Node). n.parent) n-is, parent),
            omega (arith, low.1, ap (λ (n : Node). n.next) m-is, ap (λ (n : Node). n.next) n-is, next),
          )
      cases false e None was now = cc
      cases false e (Some m) was now = is.ordered k n (was ∙ now)

  pub tree-changed : IsTree changed
  tree-changed =
      let long = length-set tree.nodes node new in
      record {
        some = omega (arith, long, is.some);
        ordered = kept-links;
        within = λ chain. omega (arith, long, is.within chain);
      }
