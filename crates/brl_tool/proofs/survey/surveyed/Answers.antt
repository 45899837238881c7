use Rattle.std.proofs.Common.{◌≡◌, ◌∙◌, ap, List, ℕ, Bor, map, string_bytes, subst}
use Rattle.brl_lines.specs.Tokens.{LineView}
use Rattle.brl_lines.specs.Views.{line_view}
use Rattle.brl_report.specs.Survey.{IsSurveyText}
use Rattle.brl_table.specs.Survey.{FindingsView, findings_view, survey_of}
use Rattle.brl_tool.specs.Suspects.{is_suspect}
use Rattle.brl_tool.proofs.survey.surveyed.Goals as goal

pub returns-clause-text : goal.returns-clause-text
returns-clause-text c =
    let loaded = c.args.loaded.now in
    let name = λ (path : Bor (List ℕ)). path.now in
    let lines = map line_view c.as_slice-2.result.now in
    let paths = map name c.as_slice-3.result.now in
    let read : lines ≡ loaded.lines = ap (map line_view) c.as_slice-2.ensures.value ∙ c.in_ok-lines.ensures.lines in
    let surveyed : findings_view c.in_ok-found.found ≡ survey_of loaded.lines =
    c.in_ok-found.ensures ∙ ap (λ ls. survey_of (map line_view ls)) c.as_slice.ensures.value ∙ ap survey_of c.in_ok-lines.ensures.lines in
    let named : paths ≡ loaded.paths = ap (map name) c.as_slice-3.ensures.value ∙ c.in_ok-paths.ensures in
    let Reports : FindingsView → List LineView → List (List ℕ) → Type 0 = λ found ls ps. IsSurveyText c.args.brief found ls ps (string_bytes c.in_ok-text.text) in
    subst (λ (found : FindingsView). Reports found loaded.lines loaded.paths) surveyed
    (subst (λ (ls : List LineView). Reports (findings_view c.in_ok-found.found) ls loaded.paths) read
    (subst (λ (ps : List (List ℕ)). Reports (findings_view c.in_ok-found.found) lines ps) named c.in_ok-text.ensures))

pub returns-clause-suspect : goal.returns-clause-suspect
returns-clause-suspect c =
    let surveyed : findings_view c.in_ok-found.found ≡ survey_of c.args.loaded.now.lines =
    c.in_ok-found.ensures ∙ ap (λ ls. survey_of (map line_view ls)) c.as_slice.ensures.value ∙ ap survey_of c.in_ok-lines.ensures.lines in
    c.is_suspect-suspect.ensures ∙ ap is_suspect surveyed
