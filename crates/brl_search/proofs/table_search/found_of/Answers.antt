use Rattle.std.proofs.Common.{◌≡◌, ◌∙◌, ℕ, List, slice_get, subst, subst₂, sym}
use Rattle.brl_dues.specs.Steps.{dues_machine}
use Rattle.brl_pairs.specs.Sets.{pair_at, sets_of}
use Rattle.brl_pairs.specs.Pairs.{IsClosed}
use Rattle.brl_pairs.specs.Runs.{IsExact, IsUnambiguous}
use Rattle.brl_closure.specs.Answers.{AreTwoPaths, IsCertified, IsLimit}
use Rattle.brl_closure.specs.Deciding.{IsClashOf}
use Rattle.brl_rules.specs.TableView.{TableView}
use Rattle.brl_without.specs.Tables.{IsClashWithout, IsUnambiguousWithout}
use Rattle.brl_without.specs.Without.{without}
use Rattle.brl_search.proofs.TableSearch.{clash_of_machine, clash_without, found_is, none_of_machine}
use Rattle.brl_closure.proofs.TwoRuns.{no_limit}
use Rattle.brl_search.specs.declared.table_search.Found.TheVariants.{Certified, Clashing, Limit}
use Rattle.brl_states.specs.declared.cert.Cert.TheVariants.{Word}
use Rattle.brl_search.proofs.table_search.found_of.Goals as goal

-- two paths with the same cells show a clash of the machine without some characters
shows : (cs left_out : List ℕ) (u v t : TableView) (left right : List ℕ) → cs ≡ left_out → u ≡ v → v ≡ t → IsExact (dues_machine t)
    → (IsExact (dues_machine v) → IsExact (without left_out (dues_machine v)))
    → (IsExact (without cs (dues_machine u)) → (one other : List ℕ) → AreTwoPaths (without cs (dues_machine u)) one other → IsClashOf (without cs (dues_machine u)) one other)
    → AreTwoPaths (without left_out (dues_machine t)) left right → IsClashOf (without left_out (dues_machine t)) left right
shows cs left_out u v t left right same one two exact keeps law paths =
    let at = subst₂ (λ (ds : List ℕ) (w : TableView). IsExact (without ds (dues_machine w)) → (one other : List ℕ) → AreTwoPaths (without ds (dues_machine w)) one other → IsClashOf (without ds (dues_machine w)) one other) same (one ∙ two) law in
    let kept = subst (λ (w : TableView). IsExact (dues_machine w) → IsExact (without left_out (dues_machine w))) two keeps in
    at (kept exact) left right paths

pub small_clash_of-requires : goal.small_clash_of-requires
small_clash_of-requires c =
    let t = c.args.table.now in
    let left_out = c.args.left_out.now in
    let left = c.in-BothEnd.left.items in
    let right = c.in-BothEnd.right.items in
    let paths : AreTwoPaths (without left_out (dues_machine t)) left right = (rw c.in-BothEnd.is at c.requires.1).0 in
    let clash = clash_of_machine left_out t left right
    (shows c.new-machine.result.left_out left_out c.new-machine.result.machine c.new-dues.result t left right c.new-machine.ensures.left_out c.new-machine.ensures.machine c.new-dues.ensures.table c.exact_law.ensures (c.exact_without_law.ensures left_out) c.same_cells_law.ensures paths) in
    record { clash = clash; diverge = tt }

pub returns-in-Closed-clause-found : goal.returns-in-Closed-clause-found
returns-in-Closed-clause-found c limit outcome =
    let t = c.args.table.now in
    let left_out = c.args.left_out.now in
    let m = c.new-machine.result in
    let body = c.in-Closed.body in
    let certified : IsCertified (without left_out (dues_machine t)) limit body = rw c.in-Closed.is at outcome in
    let closed : IsClosed (without m.left_out (dues_machine m.machine)) (sets_of body) =
    subst₂ (λ (cs : List ℕ) (u : TableView). IsClosed (without cs (dues_machine u)) (sets_of body)) (sym c.new-machine.ensures.left_out) (sym (c.new-machine.ensures.machine ∙ c.new-dues.ensures.table)) certified.closed in
    let machine : IsUnambiguous (without m.left_out (dues_machine m.machine)) = c.numbered_sets_law.ensures (slice_get body.states) (pair_at body) closed in
    let single : IsUnambiguousWithout left_out t = subst (IsUnambiguousWithout left_out) c.new-dues.ensures.table
    ((c.unambiguous_without_law.ensures left_out).0
    (subst₂ (λ (cs : List ℕ) (u : TableView). IsUnambiguous (without cs (dues_machine u))) c.new-machine.ensures.left_out c.new-machine.ensures.machine machine)) in
    found_is (without left_out (dues_machine t)) (IsUnambiguousWithout left_out t) (λ clash. IsClashWithout left_out t clash.left clash.right clash.cells) limit (Certified (Word body)) (certified, single) tt tt (λ few_states few_pairs single. tt)

pub returns-in_ok-clash-in-BothEnd-clause-found : goal.returns-in_ok-clash-in-BothEnd-clause-found
returns-in_ok-clash-in-BothEnd-clause-found c limit outcome =
    let t = c.args.table.now in
    let left_out = c.args.left_out.now in
    let left = c.in-BothEnd.left.items in
    let right = c.in-BothEnd.right.items in
    let found = c.in_ok-clash-in-BothEnd.clash in
    let paths : AreTwoPaths (without left_out (dues_machine t)) left right = (rw c.in-BothEnd.is at outcome).0 in
    let shown = shows c.new-machine.result.left_out left_out c.new-machine.result.machine c.new-dues.result t left right c.new-machine.ensures.left_out c.new-machine.ensures.machine c.new-dues.ensures.table c.exact_law.ensures (c.exact_without_law.ensures left_out) c.same_cells_law.ensures paths in
    let clash : IsClashWithout left_out t found.left found.right found.cells =
    clash_without left_out t left right found c.in_ok-clash-in-BothEnd.ensures.left c.in_ok-clash-in-BothEnd.ensures.right
    (none_of_machine left_out t left right shown) c.in_ok-clash-in-BothEnd.ensures.clash in
    found_is (without left_out (dues_machine t)) (IsUnambiguousWithout left_out t) (λ other. IsClashWithout left_out t other.left other.right other.cells) limit (Clashing found) tt clash tt
    (λ few_states few_pairs single.
    let is = clash.clash in
    is.differ (single found.left found.right is.left_text is.right_text clash.left_without clash.right_without (is.left_cells ∙ sym is.right_cells)))

pub returns-in-Limit-clause-found : goal.returns-in-Limit-clause-found
returns-in-Limit-clause-found c limit outcome =
    let m = without c.args.left_out.now (dues_machine c.args.table.now) in
    let passed : IsLimit m limit c.in-Limit.states c.in-Limit.pairs = rw c.in-Limit.is at outcome in
    let t = c.args.table.now in
    found_is m (IsUnambiguousWithout c.args.left_out.now t) (λ clash. IsClashWithout c.args.left_out.now t clash.left clash.right clash.cells) limit (Limit c.in-Limit.states c.in-Limit.pairs) tt tt passed
    (λ few_states few_pairs single. absurd (no_limit m limit c.in-Limit.states c.in-Limit.pairs few_states few_pairs passed))
