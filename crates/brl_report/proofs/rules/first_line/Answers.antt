use Rattle.std.proofs.Common.{◌≡◌, ◌∙◌, Bor, None, Option, Some, ap, option_map, refl, rules, sym, tests}
use Rattle.std.proofs.lemmas.Iterator.{YieldsList-from_slice}
use Rattle.std.proofs.lemmas.Iterator.Search.{find_from_yields_List}
use Rattle.brl_lines.specs.Views.{line_view}
use Rattle.brl_lines.specs.declared.line.Line.{Line}
use Rattle.brl_report.specs.Rules.{borrowed_line_view, is_wanted}
use Rattle.brl_report.proofs.LineLemmas.{find_in_map}
use Rattle.brl_report.proofs.rules.first_line.Goals as goal

viewed : (found : Option (Bor Line)) → option_map borrowed_line_view found ≡ option_map line_view (option_map (λ (line : Bor Line). line.now) found)
viewed None = refl
viewed (Some line) = refl

pub returns : goal.returns
returns c =
    viewed c.find.result
    ∙ ap (option_map line_view) (find_from_yields_List (λ (line : Line). is_wanted c.args.wanted (line_view line)) _ _ _ c.find.ensures.ran (YieldsList-from_slice c.args.lines.now c.iter.ensures.rest) (λ x b q k. search (rules, tests)))
    ∙ sym (find_in_map (is_wanted c.args.wanted) line_view c.args.lines.now)
