use Rattle.std.proofs.Common.{◌≡◌, ◌<◌, ◌+◌, ◌∙◌, List, Ok, Some, ap, arith, length, map, subst, sym, vec_len, slice_get}
use Rattle.std.proofs.lemmas.List.{length-map}
use Rattle.brl_failure.specs.Raised.{if_fault-weaker}
use Rattle.brl_lines.specs.Views.{line_view}
use Rattle.brl_table.specs.Faults.{second_pass_fault}
use Rattle.brl_table.specs.Reading.{files_of, item_in}
use Rattle.brl_table.specs.declared.faulty.FaultyLine.{FaultyLine}
use Rattle.brl_table.proofs.ResolveSteps.{line_there}
use Rattle.brl_table.proofs.SecondPass.{at, same-length, second-is}
use Rattle.brl_table.proofs.SurveySteps.{AreFound, found-failure, found-none}
use Rattle.brl_table.proofs.UnresolvedSteps.{aligned}
use Rattle.brl_table.proofs.faulty.find_unresolved.Goals as goal
use Rattle.brl_table.proofs.faulty.find_unresolved.Goals.{in-Err+in_ok-faulty_line+in_ok-push, in_default}

pub resolve_at-requires : goal.resolve_at-requires
resolve_at-requires c =
    let lines = map line_view c.args.lines.now in
    let items = c.args.builder.now.items in
    let read : map Ok items.items ≡ map (item_in (files_of lines)) lines = ap (map Ok) c.requires.all ∙ aligned lines c.requires.passed in
    let count = same-length lines items.items read c.mark_listed.new.self.characters.infos.entries c.mark_listed.ensures.marked.entries_are in
    omega (arith, count, length-map c.args.lines.now line_view, c.loop-place-test.true, ap vec_len c.mark_listed.ensures.items, items.ok.0)

pub loop-place-preserved : goal.loop-place-preserved
loop-place-preserved c =
    let lines = map line_view c.args.lines.now in
    let items = c.args.builder.now.items.items in
    let characters = c.mark_listed.new.self.characters.infos.entries in
    let marked = c.mark_listed.ensures.marked in
    let i = c.loop-place.place in
    let line = c.index-lines-place.result in
    let view = line_view line in
    let read : map Ok items ≡ map (item_in (files_of lines)) lines = ap (map Ok) c.requires.all ∙ aligned lines c.requires.passed in
    let count = same-length lines items read characters marked.entries_are in
    let there = line_there c.args.lines.now i line c.loop-place-test.true c.index-lines-place.is in
    let inside : i < length items = omega (arith, count, length-map c.args.lines.now line_view, c.loop-place-test.true) in
    let (item, here) = at items i inside in
    let second = second-is lines items read characters marked.entries_are i view item there here in
    let kept : slice_get c.mark_listed.new.self.items.items i ≡ Some item = ap (λ v. slice_get v.items i) c.mark_listed.ensures.items ∙ here in
    elim c.match-resolve_at.branch [
      | in-Err+in_ok-faulty_line+in_ok-push w ↦
          found-failure (second_pass_fault lines) lines i view there c.loop-place.found.items c.loop-place.invariant w.in-Err.failure w.in_ok-faulty_line.field-0 c.match-resolve_at.found.items
          (if_fault-weaker _ _ w.in-Err.failure (λ wrong h. second ∙ h) (w.in-Err.ensures item kept))
          w.in_ok-faulty_line.ensures
          (ap (λ v. v.items) w.found-is ∙ w.in_ok-push.ensures.items)
      | in_default w ↦
          subst (λ (found : List FaultyLine). AreFound (second_pass_fault lines) lines (i + 1) found) (sym (ap (λ v. v.items) w.found-is))
          (found-none (second_pass_fault lines) lines i view there c.loop-place.found.items c.loop-place.invariant (second ∙ w.in_default.ensures item kept))
    ]
