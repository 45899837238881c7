use Rattle.std.proofs.Common.{◌≡◌, ◌∙◌, List, Option, Err, ap, map, option_map, refl, string_bytes, ℕ}
use Rattle.brl_answers.specs.Delivery.{world}
use Rattle.brl_clashes.specs.Showing.{Asked}
use Rattle.brl_clashes.specs.declared.list_form.ListForm.{ListForm}
use Rattle.brl_lines.specs.Tokens.{LineView}
use Rattle.brl_lines.specs.Views.{line_view}
use Rattle.brl_rules.specs.TableView.{TableView}
use Rattle.brl_pairs.specs.declared.excused.Excused.{Excused}
use Rattle.brl_stream.proofs.KnownBytes.{Appends-nil}
use Rattle.brl_tool.proofs.DiagnosisLemmas.{fault_of_list, listed, memory_after_list, memory_before_list}
use Rattle.brl_tool.specs.Baselines.{excused_by_text}
use Rattle.brl_tool.specs.Diagnosing.{asked_of_input}
use Rattle.brl_tool.proofs.clashes.list_clashes.Goals as goal

-- what is excused is the same by what the code has
excused_is : (t : TableView) (excused : Excused) (baseline other : Option (List ℕ)) (lines own : List LineView) → excused ≡ excused_by_text baseline t lines → baseline ≡ other → lines ≡ own → excused ≡ excused_by_text other t own
excused_is t excused baseline other lines own is baseline_is lines_are = is ∙ (λ i. excused_by_text (baseline_is i) t (lines_are i))

-- what is asked for, of these
abbrev asked_at : TableView → List LineView → List ℕ → ℕ → ListForm → Excused → Asked
asked_at t lines left_out limit form excused = record { table = t; lines = lines; left_out = left_out; limit = limit; form = form; excused = excused }

same_asked : (t : TableView) (lines own : List LineView) (left_out : List ℕ) (limit : ℕ) (form : ListForm) (excused other : Excused) → lines ≡ own → excused ≡ other → asked_at t lines left_out limit form excused ≡ asked_at t own left_out limit form other
same_asked t lines own left_out limit form excused other lines_are is = (λ i. asked_at t (lines_are i) left_out limit form (is i))

pub returns-in_err-lines : goal.returns-in_err-lines
returns-in_err-lines g c = λ gives.
    let now = world gives (g.O.Output.failures c.args.out.now) (g.O.Output.contents c.args.out.now) in
    memory_before_list c.args.asked.limit c.args.asked.form c.args.asked.pairs c.args.input.now now now (asked_of_input c.args.asked.limit c.args.asked.form c.args.input.now) refl c.from_residual.result c.from_residual.ensures.1 (Appends-nil now.contents)

pub returns-in_err-excused : goal.returns-in_err-excused
returns-in_err-excused g c = λ gives.
    let now = world gives (g.O.Output.failures c.args.out.now) (g.O.Output.contents c.args.out.now) in
    memory_before_list c.args.asked.limit c.args.asked.form c.args.asked.pairs c.args.input.now now now (asked_of_input c.args.asked.limit c.args.asked.form c.args.input.now) refl c.from_residual-in_err-excused.result
    c.from_residual-in_err-excused.ensures.1 (Appends-nil now.contents)

pub returns-in_err-tally : goal.returns-in_err-tally
returns-in_err-tally g c = λ gives.
    let asked = c.args.asked in
    let input = c.args.input.now in
    let before = world gives (g.O.Output.failures c.args.out.now) (g.O.Output.contents c.args.out.now) in
    let after = world gives (g.O.Output.failures c.show_list.new.out) (g.O.Output.contents c.show_list.new.out) in
    let lines_are : map line_view c.as_slice-lines.result.now ≡ input.loaded.files.lines = (λ i. map line_view (c.as_slice-lines.ensures.value i)) ∙ c.in_ok-lines.ensures.lines in
    let excused = excused_is input.loaded.table c.in_ok-excused.excused _ (option_map string_bytes input.baseline) _ input.loaded.files.lines c.in_ok-excused.ensures c.baseline_of-baseline.ensures lines_are in
    let own = asked_at input.loaded.table (map line_view c.as_slice-lines.result.now) input.left_out asked.limit asked.form c.in_ok-excused.excused in
    let same : own ≡ asked_of_input asked.limit asked.form input =
    same_asked input.loaded.table (map line_view c.as_slice-lines.result.now) input.loaded.files.lines input.left_out asked.limit asked.form c.in_ok-excused.excused _ lines_are excused in
    fault_of_list asked.limit asked.form asked.pairs input before after own same c.in_err-tally.field-0.0 c.from_residual-in_err-tally.result c.from_residual-in_err-tally.ensures.1 c.in_err-tally.ensures.shows (λ failed. c.in_err-tally.ensures.cause (ap Err failed))

pub returns-in_err-answer_after : goal.returns-in_err-answer_after
returns-in_err-answer_after g c = λ gives.
    let asked = c.args.asked in
    let input = c.args.input.now in
    let before = world gives (g.O.Output.failures c.args.out.now) (g.O.Output.contents c.args.out.now) in
    let after = world gives (g.O.Output.failures c.show_list.new.out) (g.O.Output.contents c.show_list.new.out) in
    let lines_are : map line_view c.as_slice-lines.result.now ≡ input.loaded.files.lines = (λ i. map line_view (c.as_slice-lines.ensures.value i)) ∙ c.in_ok-lines.ensures.lines in
    let excused = excused_is input.loaded.table c.in_ok-excused.excused _ (option_map string_bytes input.baseline) _ input.loaded.files.lines c.in_ok-excused.ensures c.baseline_of-baseline.ensures lines_are in
    let own = asked_at input.loaded.table (map line_view c.as_slice-lines.result.now) input.left_out asked.limit asked.form c.in_ok-excused.excused in
    let same : own ≡ asked_of_input asked.limit asked.form input =
    same_asked input.loaded.table (map line_view c.as_slice-lines.result.now) input.loaded.files.lines input.left_out asked.limit asked.form c.in_ok-excused.excused _ lines_are excused in
    memory_after_list asked.limit asked.form asked.pairs input before after own same c.in_ok-tally.tally c.from_residual-in_err-answer_after.result c.from_residual-in_err-answer_after.ensures.1 c.in_ok-tally.ensures.shows

pub returns : goal.returns
returns g c = λ gives.
    let asked = c.args.asked in
    let input = c.args.input.now in
    let before = world gives (g.O.Output.failures c.args.out.now) (g.O.Output.contents c.args.out.now) in
    let after = world gives (g.O.Output.failures c.show_list.new.out) (g.O.Output.contents c.show_list.new.out) in
    let lines_are : map line_view c.as_slice-lines.result.now ≡ input.loaded.files.lines = (λ i. map line_view (c.as_slice-lines.ensures.value i)) ∙ c.in_ok-lines.ensures.lines in
    let excused = excused_is input.loaded.table c.in_ok-excused.excused _ (option_map string_bytes input.baseline) _ input.loaded.files.lines c.in_ok-excused.ensures c.baseline_of-baseline.ensures lines_are in
    let own = asked_at input.loaded.table (map line_view c.as_slice-lines.result.now) input.left_out asked.limit asked.form c.in_ok-excused.excused in
    let same : own ≡ asked_of_input asked.limit asked.form input =
    same_asked input.loaded.table (map line_view c.as_slice-lines.result.now) input.loaded.files.lines input.left_out asked.limit asked.form c.in_ok-excused.excused _ lines_are excused in
    listed asked.limit asked.form asked.pairs input before after own same _ c.in_ok-tally.tally c.in_ok-answer_after.field-0 c.baseline_of-baseline.ensures c.requires c.in_ok-tally.ensures.shows c.in_ok-answer_after.ensures
