use Rattle.std.proofs.Common.{◌≡◌, ◌∙◌, ◌++◌, ◌∷◌, ◌==◌, ℕ, List, [], ap, length, map, refl, string_bytes, sym, true≢false}
use Rattle.brl_lines.specs.Views.{line_view}
use Rattle.brl_lines.specs.declared.line.Line.{Line}
use Rattle.brl_report.specs.Rules.{rule_text}
use Rattle.brl_report.specs.Sources.{sign_sources, step_sources}
use Rattle.brl_report.specs.declared.rules.RuleForm.TheVariants.{Source}
use Rattle.brl_report.specs.declared.steps.ReportStep.{ReportStep}
use Rattle.brl_rules.specs.TableView.{TableView}
use Rattle.brl_report.proofs.rules.Lined.step_sources.Goals as goal

-- where lines are given, they are those of the indicators and of the rule
given : (t : TableView) (lines : List Line) (x : ReportStep) → (lines ≡ [] → ⊥) → sign_sources t (map line_view lines) x ++ rule_text Source t (map line_view lines) x.step.rule ≡ step_sources t (map line_view lines) x
given t [] x some = absurd (some refl)
given t (line ∷ lines) x some = refl

pub returns : goal.returns
returns c =
    let t = c.args.self.now.table.now in
    let x = c.args.step.now in
    let lines = map line_view c.args.self.now.lines.now in
    let signs : string_bytes c.push_sign_sources.new.text ≡ sign_sources t lines x = c.in_ok-push_sign_sources.ensures ∙ ap (λ (l : List ℕ). l ++ sign_sources t lines x) c.new-text.ensures.bytes in
    c.in_ok-push_rule.ensures ∙ ap (λ (l : List ℕ). l ++ rule_text Source t lines x.step.rule) signs ∙ given t c.args.self.now.lines.now x (λ none. true≢false (sym (c.is_empty.ensures ∙ ap (λ (l : List Line). length l == 0) none) ∙ c.if-is_empty.false))
