use Rattle.std.proofs.Common.{◌-◌, refl, arith}
use Rattle.std.proofs.lemmas.Grind.{common_steps}
use Rattle.std.specs.Map.{keys_of}
use Rattle.brl_window.proofs.Loops.{letters-count, letter_found, first_found, all_found}
use Rattle.brl_window.proofs.steps.+push_steps.Goals as goal

pub returns-clause-found : goal.returns-clause-found
returns-clause-found t c =
    all_found c.args.table.now c.args.here (keys_of c.args.table.now.characters) c.args.known.now.items c.args.more c.loop-number.number c.args.found.now.items c.loop-number.found.items
    (omega (arith, c.if-more-eq0.false)) (omega (arith, letters-count c.args.table.now, c.char_count-number-end.ensures.count, c.loop-number-test.false)) c.loop-number.invariant.1

pub loop-number-init : goal.loop-number-init
loop-number-init t c = (refl, first_found c.args.table.now c.args.here c.args.known.now.items _ _ _ c.as_slice-2.ensures.value c.in_ok-push_step.ensures)

pub loop-number-preserved : goal.loop-number-preserved
loop-number-preserved t c = (
  grind (arith, common_steps, c.pop.ensures.items, c.in_ok-push_steps.ensures.known, c.in_ok-push.ensures.items, c.loop-number.invariant.0),
  letter_found c.args.table.now c.args.here (keys_of c.args.table.now.characters) c.args.known.now.items c.loop-number.known.items _ (c.args.more - 1) c.loop-number.number _ c.args.found.now.items c.loop-number.found.items _
      c.char_at.ensures c.loop-number.invariant.0 c.in_ok-push.ensures.items c.loop-number.invariant.1 c.in_ok-push_steps.ensures.found,
)
