use Rattle.std.proofs.Common.{◌≡◌, ◌+◌, ◌-◌, ◌<◌, ◌≤◌, ◌++◌, ◌∙◌, List, ℕ, ap, append_assoc, arith, drop, length, length-append, length-drop, subst, take}
use Rattle.std.proofs.lemmas.List.{take_rest}
use Rattle.brl_rules.specs.Choice.{IsChoice, chosen}
use Rattle.brl_rules.specs.Indicators.{indicators}
use Rattle.brl_rules.specs.Infos.{first_info}
use Rattle.brl_rules.specs.Text.{context_after_all, is_in_caps_run}
use Rattle.brl_forward.specs.Trace.{step_before}
use Rattle.brl_forward.proofs.InfoLists.{first_info-at, infos-taken, length-infos}
use Rattle.brl_rules.specs.declared.context.Context.{Context}
use Rattle.brl_forward.specs.Walk.{Takes}
use Rattle.brl_forward.proofs.WalkLemmas.{context-one, signs-known}
use Rattle.brl_forward.proofs.walk.take_step.Goals.{In_ok-append}
use Rattle.brl_forward.proofs.walk.take_step.Goals as goal

pub is_in_caps_run_of-run-requires : goal.is_in_caps_run_of-run-requires
is_in_caps_run_of-run-requires c =
    ap (first_info c.args.table.now) (take_rest c.args.text.now c.args.at.start)
    ∙ first_info-at c.args.table.now c.args.text.now c.args.infos.now c.args.at.start c.in-Some.info.now c.requires.infos c.in-Some.ensures.lookup.3.0 c.in-Some.ensures.lookup.1

pub choice_of-choice-requires-clause-info : goal.choice_of-choice-requires-clause-info
choice_of-choice-requires-clause-info c =
    ap (first_info c.args.table.now) (take_rest c.args.text.now c.args.at.start)
    ∙ first_info-at c.args.table.now c.args.text.now c.args.infos.now c.args.at.start c.in-Some.info.now c.requires.infos c.in-Some.ensures.lookup.3.0 c.in-Some.ensures.lookup.1

-- what was taken, whatever the context after it was found by
taken_with : (c : In_ok-append) → (after : Context)
    → after ≡ context_after_all c.args.table.now c.args.at.here (take c.choice_of-choice.result.taken (drop c.args.at.start c.args.text.now))
    → Takes c.args.table.now c.args.text.now c.args.at c.args.cells.now.items c.append.new.cells.items
    (record {
      next = record { here = after; start = c.args.at.start + c.choice_of-choice.result.taken };
      rule = c.choice_of-choice.result.number;
      before = c.len-before.result;
      after_signs = c.len-after_signs.result;
    })
taken_with c after after-is =
    let t = c.args.table.now in
    let text = c.args.text.now in
    let start = c.args.at.start in
    let here = c.args.at.here in
    let old = c.args.cells.now.items in
    let n = c.choice_of-choice.result.taken in
    let rest = drop start text in
    let known = first_info-at t text c.args.infos.now start c.in-Some.info.now c.requires.infos c.in-Some.ensures.lookup.3.0 c.in-Some.ensures.lookup.1 in
    let choice = subst (λ (rest : List ℕ). IsChoice c.choice_of-choice.result (chosen t here.classes rest)) (take_rest text start) c.choice_of-choice.ensures.choice in
    let room : n ≤ length rest = omega (arith, c.choice_of-choice.ensures.room, ap length (take_rest text start)) in
    let within : start < length text = omega (arith, c.in-Some.ensures.lookup.3.0, length-infos t text c.args.infos.now c.requires.infos) in
    let in_caps_run = c.is_in_caps_run_of-run.ensures ∙ ap (is_in_caps_run t here.classes) (take_rest text start) in
    let signs = c.in_ok-push_indicators_of.ensures ∙ ap (λ signs. old ++ signs) (signs-known t here _ rest c.in-Some.info.now.now known in_caps_run) in
    let step = ap (λ here. step_before t here start rest) c.requires.at.0 in
    let lengths = ap length signs ∙ length-append old (indicators t here rest) in
    record {
      within = within;
      rule = choice.number ∙ ap (λ s. s.rule) step;
      before = omega (arith, c.len-before.ensures, c.args.cells.now.ok);
      signs = omega (arith, lengths, c.len-after_signs.ensures, ap (λ s. s.indicators) step);
      cells =
          c.in_ok-append.ensures ∙ ap (λ cells. cells ++ c.choice_of-choice.result.cells.now) signs ∙ append_assoc old (indicators t here rest) c.choice_of-choice.result.cells.now
          ∙ ap (λ cells. old ++ (indicators t here rest ++ cells)) choice.cells ∙ ap (λ s. old ++ s.cells) step;
      end = ap (λ count. start + count) (choice.taken ∙ ap (λ s. s.length) step);
      some = omega (arith, c.choice_of-choice.ensures.some);
      next = (
        after-is ∙ ap (λ here. context_after_all t here (take n rest)) c.requires.at.0 ∙ c.translation_laws.ensures.context t text start n room,
        omega (arith, room, within, length-drop start text),
      );
    }

pub returns-then-choice-eq1-clause-taken : goal.returns-then-choice-eq1-clause-taken
returns-then-choice-eq1-clause-taken c =
    let t = c.args.table.now in
    let text = c.args.text.now in
    let start = c.args.at.start in
    let known = first_info-at t text c.args.infos.now start c.in-Some.info.now c.requires.infos c.in-Some.ensures.lookup.3.0 c.in-Some.ensures.lookup.1 in
    taken_with (goal.at.returns-then-choice-eq1-clause-taken c).In_ok-append _
    (context-one t c.args.at.here _ (drop start text) c.in-Some.info.now.now c.choice_of-choice.result.taken c.if-choice-eq1.true known c.context_after_info-here.ensures)

pub returns-else-choice-eq1-clause-taken : goal.returns-else-choice-eq1-clause-taken
returns-else-choice-eq1-clause-taken c =
    let t = c.args.table.now in
    let text = c.args.text.now in
    let start = c.args.at.start in
    let n = c.choice_of-choice.result.taken in
    let taken : start + n - start ≡ n = omega arith in
    taken_with (goal.at.returns-else-choice-eq1-clause-taken c).In_ok-append _
    (c.context_after_infos-here.ensures (take n (drop start text)) (infos-taken t text c.args.infos.now start n (start + n - start) c.requires.infos taken))
