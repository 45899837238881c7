use Rattle.std.proofs.Common.{◌≡◌, ◌∙◌, ◌++◌, ◌∷◌, [], ℕ, List, ap, map, sym}
use Rattle.std.proofs.lemmas.Iterator.Adapters.{YieldsList-from_vec}
use Rattle.std.proofs.lemmas.Iterator.Consumers.{YieldsList-so_far, YieldsList-turn}
use Rattle.std.proofs.lemmas.List.{map-append, map-id}
use Rattle.brl_forward.specs.declared.steps.Traced.{Traced}
use Rattle.brl_report.specs.Steps.{report_step, step_after}
use Rattle.brl_report.specs.declared.steps.ReportStep.{ReportStep}
use Rattle.brl_rules.specs.Text.{context_after_all, context_at}
use Rattle.brl_report.proofs.StepPlaces.{StandsAt, context-after, next-place, taken_by, taken_by-more}
use Rattle.brl_report.proofs.steps.traced_steps.Goals as goal

pub loop-step-preserved : goal.loop-step-preserved
loop-step-preserved c =
    let t = c.args.table.now in
    let text = c.args.text.now in
    let l = c.loop-step in
    let s = c.in-Some.step in
    let given = c.into_iter-step-iterator.ensures.into_iter_gives in
    let road = YieldsList-from_vec {s = c.into_iter-step-iterator.result} c.in_ok-steps.steps.items given.0 (given.1 ∙ c.in_ok-steps.steps.ok.0) in
    let turn = YieldsList-turn road l.yielded l.step-iterator l.yielded_by c.next.result c.next.new.self s c.in-Some.is c.next.ensures.steps in
    let so_far = sym (map-id l.yielded) ∙ YieldsList-so_far road l.yielded l.step-iterator l.yielded_by in
    let at : StandsAt t text s (taken_by l.yielded) = next-place t text c.in_ok-steps.steps.items l.yielded s c.in_ok-steps.ensures.steps so_far turn.0 turn.1 in
    let here : l.here ≡ context_at t text s.start = l.invariant.here ∙ ap (context_at t text) (sym (ap (λ (x : Traced). x.start) at.0)) in
    let reported : c.in_ok-reported.reported ≡ report_step t text s = c.in_ok-reported.ensures ∙ ap (λ context. step_after t text context s) here in
    record {
      found = c.in_ok-push.ensures.items ∙ ap (λ (xs : List ReportStep). xs ++ c.in_ok-reported.reported ∷ []) l.invariant.found
          ∙ ap (λ (x : ReportStep). map (report_step t text) l.yielded ++ x ∷ []) reported ∙ sym (map-append (report_step t text) l.yielded (s ∷ []));
      here = c.context_after-here.ensures
          ∙ ap (λ (characters : List ℕ). context_after_all t l.here characters) (c.as_slice.ensures ∙ ap (λ (x : ReportStep). x.characters) reported)
          ∙ ap (λ context. context_after_all t context (report_step t text s).characters) l.invariant.here
          ∙ context-after t text s (taken_by l.yielded) at (c.translation_laws.ensures.context t text) (c.choice_laws.ensures.room t)
          ∙ ap (context_at t text) (sym (taken_by-more l.yielded s));
    }
