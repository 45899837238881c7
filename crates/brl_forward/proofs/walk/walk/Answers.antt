use Rattle.std.proofs.Common.{◌≡◌, ◌++◌, ◌∙◌, ap, sym, arith, drop, length, refl}
use Rattle.std.proofs.lemmas.List.{drop_at}
use Rattle.brl_forward.specs.Trace.{step_at, steps_from}
use Rattle.brl_forward.specs.Walk.{Takes}
use Rattle.brl_forward.proofs.StepLoop.{same_step, step_more, steps_start}
use Rattle.brl_forward.proofs.WalkLemmas.{cells_more, cells_start}
use Rattle.brl_forward.proofs.walk.walk.Goals.{then-traces+in_ok-traced_step+in_ok-push, else-traces}
use Rattle.brl_forward.proofs.walk.walk.Goals as goal

pub loop-step-init : goal.loop-step-init
loop-step-init c = record {
  at = (refl, omega arith);
  cells = ap (λ cells. c.args.cells.now.items ++ cells) (cells_start c.args.table.now c.args.text.now);
  steps = λ traced. ap (λ steps. c.args.steps.now.items ++ steps) (steps_start c.args.table.now c.args.text.now);
}

pub loop-step-preserved : goal.loop-step-preserved
loop-step-preserved c =
    let t = c.args.table.now in
    let text = c.args.text.now in
    let start = c.loop-step.at.start in
    let step = c.in-Some.step in
    let takes : Takes t text c.loop-step.at c.loop-step.cells.items c.take_step.new.cells.items step = rw c.in-Some.is at c.in_ok-step.ensures.taken in
    record {
      at = takes.next;
      cells = cells_more t text start step.next.start c.loop-step.cells.items c.take_step.new.cells.items _ (c.translation_laws.ensures.position t text start takes.within) takes.cells takes.end c.loop-step.invariant.cells;
      steps = λ traced. elim c.if-traces.branch [
        | then-traces+in_ok-traced_step+in_ok-push w ↦
            let x = w.in_ok-traced_step.field-0 in
            let cells = w.in_ok-traced_step.ensures.cells ∙ ap (drop step.before) (w.as_slice.ensures.value ∙ takes.cells)
            ∙ drop_at c.loop-step.cells.items (step_at t text start).cells step.before (sym takes.before) in
            let same : x ≡ step_at t text start = same_step x (step_at t text start) w.in_ok-traced_step.ensures.start (w.in_ok-traced_step.ensures.rule ∙ takes.rule)
            (omega (arith, w.in_ok-traced_step.ensures.length, takes.end)) (omega (arith, w.in_ok-traced_step.ensures.indicators, takes.before, takes.signs)) cells in
            ap (λ steps. steps.items ++ steps_from t text (length text) step.next.start) w.steps-is
            ∙ step_more c.choice_laws.ensures.some t text start step.next.start c.loop-step.steps.items w.push.new.self.items _ x takes.within same (sym w.in_ok-traced_step.ensures.length) w.in_ok-push.ensures.items
            (c.loop-step.invariant.steps traced)
        | else-traces w ↦ let no = w.if-traces.false in cc
      ];
    }
