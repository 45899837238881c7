-- The lines of a table by which a step of a translation is made: those of its indicators, and that
-- of its rule. The project's own choice.
use Rattle.std.specs.Prelude.{ℕ, if◌then◌else◌, List, [], ◌∷◌, ◌++◌, flat_map}
use Rattle.std.specs.Option.{option_map_or}
use Rattle.brl_lines.specs.Tokens.{LineView}
use Rattle.brl_report.specs.Rules.{first_source, gives_sign, rule_text}
use Rattle.brl_report.specs.declared.rules.RuleForm.TheVariants.{Source}
use Rattle.brl_report.specs.declared.steps.ReportStep.{ReportStep}
use Rattle.brl_rules.specs.Indicators.{is_used, sign_order}
use Rattle.brl_rules.specs.Infos.{first_info}
use Rattle.brl_rules.specs.TableView.{TableView}
use Rattle.brl_rules.specs.declared.rule.Info.{Info}
use Rattle.brl_rules.specs.declared.signs.Sign.{Sign}

-- the line of an indicator, where it is used before the character with this info
abbrev pub sign_source : TableView → List LineView → ReportStep → Info → Sign → List ℕ
sign_source t lines x info sign = if is_used t x.here x.run info sign then first_source (gives_sign sign) lines else []

-- the lines of the indicators of a step
abbrev pub sign_sources : TableView → List LineView → ReportStep → List ℕ
sign_sources t lines x = option_map_or (λ info. flat_map (sign_source t lines x info) sign_order) (first_info t x.characters) []

-- the lines by which a step is made, among the lines of a table; none where these aren't given
abbrev pub step_sources : TableView → List LineView → ReportStep → List ℕ
step_sources t [] x = []
step_sources t (line ∷ lines) x = sign_sources t (line ∷ lines) x ++ rule_text Source t (line ∷ lines) x.step.rule
