use Rattle.std.proofs.Common.{◌≡◌, ◌+◌, ℕ, List, false, true, ap, arith, length, subst, sym}
use Rattle.brl_pairs.specs.Splits.{AreOthers}
use Rattle.brl_pairs.specs.declared.shared.TwoPlaces.{TwoPlaces}
use Rattle.brl_pairs.proofs.SharedLaws.{AreSplitsAdded, AreSplitsBefore, all_splits, shared_at, shared_passed, splits_more}
use Rattle.brl_pairs.proofs.SortedLaws.{edge_at, is_at}
use Rattle.brl_pairs.proofs.shared.unshared_splits.Goals.{then-not-shared-position+in_ok-found+in_ok-push_splits, else-not-shared-position}
use Rattle.brl_pairs.proofs.shared.unshared_splits.Goals as goal

pub loop-position-preserved : goal.loop-position-preserved
loop-position-preserved c =
    let cells = c.args.cells.now in
    let sorted = c.args.sorted.now in
    let shared = c.args.shared.now in
    let limit = c.args.limit in
    let position = c.loop-position.position in
    let within = c.loop-position-test.true in
    let old = c.loop-position.splits.items in
    let y = edge_at sorted position in
    let y_at = is_at sorted position within in
    elim c.if-not-shared-position.branch [
      | then-not-shared-position+in_ok-found+in_ok-push_splits w ↦
          let found = w.as_slice-then-not-shared-position.result.now in
          let are : AreOthers cells sorted position limit y found = subst (AreOthers cells sorted position limit y) (sym w.as_slice-then-not-shared-position.ensures.value) (w.in_ok-found.ensures y y_at) in
          let pushed = w.in_ok-push_splits.ensures in
          let added : AreSplitsAdded y found old w.push_splits.new.splits.items = record { only = pushed.only; kept = pushed.kept; added = pushed.added } in
          subst (λ (l : List TwoPlaces). AreSplitsBefore cells sorted shared limit (position + 1) l) (sym (ap (λ v. v.items) w.splits-is))
          (splits_more cells sorted shared limit position y found old w.push_splits.new.splits.items (shared_at shared position false (omega (arith, within, c.requires.count)) w.if-not-shared-position.true) y_at are added c.loop-position.invariant)
      | else-not-shared-position w ↦
          subst (λ (l : List TwoPlaces). AreSplitsBefore cells sorted shared limit (position + 1) l) (sym (ap (λ v. v.items) w.splits-is))
          (shared_passed cells sorted shared limit position old (shared_at shared position true (omega (arith, within, c.requires.count)) w.if-not-shared-position.false) c.loop-position.invariant)
    ]

pub returns : goal.returns
returns c =
    let sorted = c.args.sorted.now in
    let end : c.loop-position.position ≡ length sorted = omega arith in
    all_splits c.args.cells.now sorted c.args.shared.now c.args.limit c.requires.places c.requires.count c.loop-position.splits.items c.sort_unstable_by_key.new.self.items c.sort_unstable_by_key.ensures.permutation
    (subst (λ (n : ℕ). AreSplitsBefore c.args.cells.now sorted c.args.shared.now c.args.limit n c.loop-position.splits.items) end c.loop-position.invariant)
