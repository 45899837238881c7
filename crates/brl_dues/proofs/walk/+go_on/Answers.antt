use Rattle.std.proofs.Common.{Global, Vec, get_or, ◌≡◌, ◌∷◌, ◌++◌, [], ap, arith, eq-eqb, sym, ◌∙◌}
use Rattle.std.specs.List.{flat_map}
use Rattle.std.specs.Prelude.{option_map}
use Rattle.brl_pairs.specs.declared.step.Step.{Step}
use Rattle.brl_states.specs.declared.dues_state.DuesState.{DuesState}
use Rattle.brl_dues.specs.declared.walk.Beginning.{Beginning}
use Rattle.brl_dues.specs.Letters.{left_past, caps_run_steps}
use Rattle.brl_dues.proofs.Loops.{own-next}
use Rattle.brl_dues.proofs.Walking.{broken-fold, left-further, same-fold, steps-by-capital, steps_after}
use Rattle.brl_dues.proofs.walk.+go_on.Goals as goal
use Rattle.brl_dues.proofs.walk.+go_on.Goals.{in-Some-2+in_ok-go_on, in_default-2}

pub loop-capital-init : goal.loop-capital-init
loop-capital-init t c =
    let o = c.args.origin.now in
    ap (λ l. c.args.listed.now.items ++ flat_map (steps_after o.table.now o.state.now o.letter.now c.args.taken.number c.args.taken.after c.args.taken.cells.now c.args.beginning.capitals.items c.in-Some.fold.now c.in-Some.others.now) l)
    (c.as_slice-capital-items.ensures ∙ c.in_ok-capitals.ensures)
    ∙ ap (λ l. c.args.listed.now.items ++ l)
    (sym (ap (caps_run_steps o.table.now o.state.now o.letter.now c.args.taken.number c.args.taken.after c.args.taken.cells.now c.args.beginning.capitals.items) c.in-Some.ensures.cases.0
    ∙ steps-by-capital o.table.now o.state.now o.letter.now c.args.taken.number c.args.taken.after c.args.taken.cells.now c.args.beginning.capitals.items c.in-Some.fold.now c.in-Some.others.now))

pub go_on-requires : goal.go_on-requires
go_on-requires t c =
    let o = c.args.origin.now in
    let longer = c.in-Some-2.longer in
    let capital = get_or c.as_slice-capital-items.result.now c.loop-capital.capital-index (record { character = 0; fold = 0 }) in
    let capitals : longer.capitals.items ≡ c.args.beginning.capitals.items ++ capital.character ∷ [] = rw c.in-Some-2.is at c.in_ok-longer.ensures.capitals in (
      omega (arith, c.in-Some.ensures.cases.1, c.decreases),
      ap (λ l. left_past o.table.now (o.letter.now.character ∷ l) o.letter.now.bars) capitals
          ∙ left-further o.table.now o.letter.now c.args.beginning.capitals.items capital.character c.args.beginning.left.items (option_map (λ (b : Beginning). b.left.items) c.in_ok-longer.field-0) c.requires
          (c.in_ok-longer.ensures.left ∙ ap (λ x. left_past x (capital.character ∷ []) c.args.beginning.left.items) c.table-table.ensures)
          ∙ ap (option_map (λ (b : Beginning). b.left.items)) c.in-Some-2.is,
    )

pub loop-capital-preserved : goal.loop-capital-preserved
loop-capital-preserved t c =
    let o = c.args.origin.now in
    let begun = c.args.beginning.capitals.items in
    let items = c.as_slice-capital-items.result.now in
    let capital = get_or items c.loop-capital.capital-index (record { character = 0; fold = 0 }) in
    let next = own-next (steps_after o.table.now o.state.now o.letter.now c.args.taken.number c.args.taken.after c.args.taken.cells.now begun c.in-Some.fold.now c.in-Some.others.now) items c.loop-capital.capital-index (record { character = 0; fold = 0 })
    c.loop-capital.listed.items c.match-branch-3.listed.items (c.args.listed.now.items ++ caps_run_steps o.table.now o.state.now o.letter.now c.args.taken.number c.args.taken.after c.args.taken.cells.now begun c.args.folds.now) c.loop-capital-test.true c.loop-capital.invariant in
    elim c.match-branch-3.branch [
      | in-Some-2+in_ok-go_on w ↦ (
          let longer = w.in-Some-2.longer in
          let capitals : longer.capitals.items ≡ begun ++ capital.character ∷ [] = rw w.in-Some-2.is at c.in_ok-longer.ensures.capitals in
          let same : c.match-branch-3.listed.items ≡ w.go_on.new.listed.items = ap (λ (v : Vec (Step DuesState) Global). v.items) w.listed-is in
          next
          (same-fold o.table.now o.state.now o.letter.now c.args.taken.number c.args.taken.after c.args.taken.cells.now begun c.in-Some.fold.now c.in-Some.others.now capital c.loop-capital.listed.items
          (eq-eqb c.in-Some.fold.now capital.fold (sym c.if-capital-fold.false)) c.match-branch-3.listed.items
          (same ∙ w.in_ok-go_on.ensures
          ∙ ap (λ l. c.loop-capital.listed.items ++ caps_run_steps o.table.now o.state.now o.letter.now c.args.taken.number c.args.taken.after c.args.taken.cells.now l c.in-Some.others.now) capitals)))
      | in_default-2 w ↦ (
          let same : c.match-branch-3.listed.items ≡ c.loop-capital.listed.items = ap (λ (v : Vec (Step DuesState) Global). v.items) w.listed-is in
          next
          (same
          ∙ broken-fold o.table.now o.state.now o.letter.now c.args.taken.number c.args.taken.after c.args.taken.cells.now begun c.in-Some.fold.now c.in-Some.others.now capital c.loop-capital.listed.items
          (left-further o.table.now o.letter.now begun capital.character c.args.beginning.left.items (option_map (λ (b : Beginning). b.left.items) c.in_ok-longer.field-0) c.requires
          (c.in_ok-longer.ensures.left ∙ ap (λ x. left_past x (capital.character ∷ []) c.args.beginning.left.items) c.table-table.ensures)
          ∙ ap (option_map (λ (b : Beginning). b.left.items)) w.in_default-2.is)))
    ]
