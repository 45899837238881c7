-- A clash in one line. The project's own choice.
use Rattle.std.specs.Prelude.{ℕ, Bool, true, ◌==◌, if◌then◌else◌, List, ◌++◌, codes, slice_get, encode_utf8_all}
use Rattle.std.specs.Option.{option_map_or}
use Rattle.brl_cells.specs.Dots.{spelling}
use Rattle.brl_forward.specs.ClashView.{ClashView}
use Rattle.brl_lines.specs.Tokens.{LineView}
use Rattle.brl_lines.specs.Visible.{visible_text}
use Rattle.brl_report.specs.Rules.{after_blanks, rule_note}
use Rattle.brl_report.specs.Steps.{common_prefix, report_steps}
use Rattle.brl_rules.specs.TableView.{TableView}

-- whether the left text's first step that the right one doesn't have is one of this rule
abbrev pub diverges_by : TableView → ClashView → ℕ → Bool
diverges_by t clash rule =
    option_map_or (λ x. x.step.rule == rule)
    (slice_get (report_steps t clash.left) (common_prefix (report_steps t clash.left) (report_steps t clash.right))) true

-- two rules within a line, that of the left text first
abbrev pub rules_note : TableView → List LineView → ClashView → ℕ → ℕ → List ℕ
rules_note t lines clash rule other =
    if diverges_by t clash rule then rule_note t lines rule ++ rule_note t lines other else rule_note t lines other ++ rule_note t lines rule

-- a text after a mark, in which what can't be seen is spelled
abbrev pub spelled_after : List ℕ → List ℕ → List ℕ
spelled_after mark text = mark ++ encode_utf8_all (visible_text text)

-- the texts of a clash
abbrev pub texts_note : ClashView → List ℕ
texts_note clash = spelled_after (codes "  ") clash.left ++ spelled_after (codes " / ") clash.right

-- the line of a clash whose texts diverge at two rules: the texts, their cells in dots, and the
-- rules
abbrev pub clash_line : TableView → List LineView → ClashView → ℕ → ℕ → List ℕ
clash_line t lines clash rule other =
    texts_note clash ++ after_blanks (spelling clash.cells) ++ rules_note t lines clash rule other ++ codes "\n"
