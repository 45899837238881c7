use Rattle.std.proofs.Common.{rules, arith, Bool, ◌≡◌, ◌≤◌, ◌&&◌, ◌∷◌, ◌+◌, ◌<◌, ◌++◌, ℕ, List, [], length, get_or, take, slice_get, IfSome, Some, None, sym, ap, ◌∙◌, append-nil, subst}
use Rattle.std.specs.List.{find, position_from}
use Rattle.std.specs.Prelude.{nat_le}
use Rattle.std.specs.Option.{option_or}
use Rattle.brl_rules.specs.Choice.{compared, fits, place_allows_number}
use Rattle.brl_rules.specs.declared.class.Class.{Class}
use Rattle.brl_rules.specs.TableView.{TableView}
use Rattle.brl_rules.specs.Text.{fold_of, is_in_caps_run}
use Rattle.brl_rules.specs.Tree.{ends_at, ends_of, mark_of}
use Rattle.brl_rules.proofs.TreeNodes.{ends-branch}
use Rattle.brl_rules.proofs.Compared.{behind_first, behind-length, behind-mark, mark-there, mark-none}
use Rattle.brl_rules.proofs.TreeWalk.{rest-none, rest-no_root, rest-start, rest-next, rest-no_branch, rest-end, one_more}
use Rattle.brl_rules.proofs.table.Table.fitting_rule.Goals.{After-mark_of, After-or-best, In-Some-mark_of, In_ok-others}
use Rattle.brl_rules.proofs.table.Table.fitting_rule.Goals as goal

-- what rules are compared with, where the first character and its fold are apart
compared-is : (t : TableView) (before : Class) (rest others : List ℕ) (x fold : ℕ) (run : Bool) → rest ≡ x ∷ others → IfSome (slice_get rest 0) (λ first. fold ≡ fold_of t first) → run ≡ is_in_caps_run t before rest
    → compared t (is_in_caps_run t before rest) rest ≡ fold ∷ behind_first t run others
compared-is t before rest others x fold run rest-is asked run-is =
    let fold-is : fold_of t x ≡ fold = sym (subst (λ (rest : List ℕ). IfSome (slice_get rest 0) (λ first. fold ≡ fold_of t first)) rest-is asked) in
    ap (λ run. compared t run rest) (sym run-is) ∙ ap (compared t run) rest-is ∙ ap (λ f. f ∷ behind_first t run others) fold-is

-- what rules have after their first character is compared with these
abbrev behind_of : In_ok-others → List ℕ
behind_of c = behind_first c.args.self.now c.args.run c.in_ok-others.others.now

is_compared : (c : In_ok-others) → compared c.args.self.now (is_in_caps_run c.args.self.now c.args.before c.args.rest.now) c.args.rest.now ≡ c.args.fold ∷ behind_of c
is_compared c = compared-is c.args.self.now c.args.before c.args.rest.now c.in_ok-others.others.now c.in_ok-others.field-0-0.now c.args.fold c.args.run (search rules) c.requires.fold c.requires.run

-- the rules at the node at hand are looked through
is_best : (c : After-or-best) → compared c.args.self.now (is_in_caps_run c.args.self.now c.args.before c.args.rest.now) c.args.rest.now ≡ c.args.fold ∷ behind_first c.args.self.now c.args.run c.in_ok-others.others.now
    → c.or-best.result ≡ position_from (λ r. fits c.args.self.now c.args.before c.args.rest.now r && nat_le (length r.chars) (c.loop-taken.taken + 1)) 0 c.args.self.now.rules
is_best c is =
    let t = c.args.self.now in
    let k = c.loop-taken.taken in
    let behind = behind_first t c.args.run c.in_ok-others.others.now in
    let ends = c.rules.ensures ∙ c.loop-taken.invariant.node [] ∙ ap (λ cs. ends_of t.rules (c.args.fold ∷ cs)) (append-nil (take k behind)) in
    c.or-best.ensures ∙ ap (λ found. option_or found c.loop-taken.best) (c.first_allowed.ensures ∙ ap (find (place_allows_number t c.args.before c.args.rest.now)) ends)
    ∙ rest-next t c.args.before c.args.rest.now c.args.fold behind is k c.loop-taken.best c.loop-taken.invariant.inside c.tree-tree.ensures.rank c.loop-taken.invariant.best

-- the mark of the character at hand is the one to compare with
is_mark : (c : After-mark_of) → c.mark_of.result ≡ slice_get (behind_first c.args.self.now c.args.run c.in_ok-others.others.now) c.loop-taken.taken
is_mark c =
    c.mark_of.ensures ∙ ap (mark_of c.args.self.now c.args.run) c.in-Some.ensures.lookup.1
    ∙ behind-mark c.args.self.now c.args.run c.in_ok-others.others.now c.loop-taken.taken c.in-Some.character.now c.loop-taken.invariant.inside c.in-Some.ensures.lookup.3.0

-- it is there, and the rules that end after it are those that go on so
is_there : (c : In-Some-mark_of) → c.mark_of.result ≡ slice_get (behind_first c.args.self.now c.args.run c.in_ok-others.others.now) c.loop-taken.taken
    → let xs = behind_first c.args.self.now c.args.run c.in_ok-others.others.now in let k = c.loop-taken.taken in
    (k < length xs) × ((at : List ℕ) → ends_at c.tree-tree.result.now c.loop-taken.node (c.in-Some-mark_of.mark ∷ at) ≡ ends_of c.args.self.now.rules (c.args.fold ∷ (take k xs ++ get_or xs k 0 ∷ at)))
is_there c is =
    let xs = behind_first c.args.self.now c.args.run c.in_ok-others.others.now in
    let k = c.loop-taken.taken in
    let some : c.mark_of.result ≡ Some c.in-Some-mark_of.mark = c.in-Some-mark_of.is in
    let there = mark-there xs k c.in-Some-mark_of.mark (sym some ∙ is) in
    (there.0, λ at. c.loop-taken.invariant.node (c.in-Some-mark_of.mark ∷ at) ∙ ap (λ m. ends_of c.args.self.now.rules (c.args.fold ∷ (take k xs ++ m ∷ at))) (there.1 0))

pub returns-in_err-others : goal.returns-in_err-others
returns-in_err-others c = c.from_residual.ensures ∙ sym (rest-none c.args.self.now c.args.before c.args.rest.now c.in_err-others.ensures.cases)

pub returns-in_err-node : goal.returns-in_err-node
returns-in_err-node c =
    let here = (goal.at.returns-in_err-node c).In_ok-others in
    let tree = c.tree-tree.result.now in
    c.from_residual-in_err-node.ensures
    ∙ sym (rest-no_root c.args.self.now c.args.before c.args.rest.now c.args.fold (behind_of here) (is_compared here)
    (λ at. ends-branch tree 0 c.args.fold None c.in_err-node.ensures.branch at ∙ c.tree-tree.ensures.tree (c.args.fold ∷ at)))

pub loop-taken-init : goal.loop-taken-init
loop-taken-init c =
    let here = (goal.at.loop-taken-init c).In_ok-others in
    let tree = c.tree-tree.result.now in
    record {
      inside = omega arith;
      node = λ at. ends-branch tree 0 c.args.fold (Some c.in_ok-node.node) c.in_ok-node.ensures.branch at ∙ c.tree-tree.ensures.tree (c.args.fold ∷ at);
      best = rest-start c.args.self.now c.args.before c.args.rest.now c.args.fold (behind_of here) (is_compared here);
    }

pub returns-in_default : goal.returns-in_default
returns-in_default c =
    let at = goal.at.returns-in_default c in
    let past : length c.in_ok-others.others.now ≤ c.loop-taken.taken = search rules in
    is_best at.After-or-best (is_compared at.In_ok-others)
    ∙ rest-end c.args.self.now c.args.before c.args.rest.now c.args.fold (behind_of at.In_ok-others) (is_compared at.In_ok-others) (c.loop-taken.taken + 1)
    (omega (arith, past, behind-length c.args.self.now c.args.run c.in_ok-others.others.now))

pub returns-in_default-mark_of : goal.returns-in_default-mark_of
returns-in_default-mark_of c =
    let at = goal.at.returns-in_default-mark_of c in
    let behind = behind_of at.In_ok-others in
    let none : c.mark_of.result ≡ None = search rules in
    is_best at.After-or-best (is_compared at.In_ok-others)
    ∙ rest-end c.args.self.now c.args.before c.args.rest.now c.args.fold behind (is_compared at.In_ok-others) (c.loop-taken.taken + 1)
    (omega (arith, mark-none behind c.loop-taken.taken (sym none ∙ is_mark at.After-mark_of)))

pub returns-in_default-branch : goal.returns-in_default-branch
returns-in_default-branch c =
    let at = goal.at.returns-in_default-branch c in
    let there = is_there at.In-Some-mark_of (is_mark at.After-mark_of) in
    is_best at.After-or-best (is_compared at.In_ok-others)
    ∙ rest-no_branch c.args.self.now c.args.before c.args.rest.now c.args.fold (behind_of at.In_ok-others) (is_compared at.In_ok-others) c.loop-taken.taken 0 there.0
    (λ after. ends-branch c.tree-tree.result.now c.loop-taken.node c.in-Some-mark_of.mark None c.in_default-branch.ensures.branch after ∙ there.1 after)

pub loop-taken-preserved : goal.loop-taken-preserved
loop-taken-preserved c =
    let here = goal.at.loop-taken-preserved c in
    let behind = behind_of here.In_ok-others in
    let k = c.loop-taken.taken in
    let there = is_there here.In-Some-mark_of (is_mark here.After-mark_of) in
    record {
      inside = omega (arith, there.0);
      node = λ at.
          ends-branch c.tree-tree.result.now c.loop-taken.node c.in-Some-mark_of.mark (Some c.in_Some-branch.branch) c.in_Some-branch.ensures.branch at ∙ there.1 at
          ∙ ap (λ cs. ends_of c.args.self.now.rules (c.args.fold ∷ cs)) (one_more k 0 behind at there.0);
      best = is_best here.After-or-best (is_compared here.In_ok-others);
    }

pub returns : goal.returns
returns c =
    let here = (goal.at.returns c).In_ok-others in
    let rest-is : c.args.rest.now ≡ c.in_ok-others.field-0-0.now ∷ c.in_ok-others.others.now = search rules in
    c.loop-taken.invariant.best
    ∙ rest-end c.args.self.now c.args.before c.args.rest.now c.args.fold (behind_of here) (is_compared here) c.loop-taken.taken
    (omega (arith, ap length rest-is, c.loop-taken-test.false, behind-length c.args.self.now c.args.run c.in_ok-others.others.now))
