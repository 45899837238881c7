use Rattle.std.proofs.Common.{◌∙◌, List, ap, map, string_bytes, subst}
use Rattle.brl_acting.specs.WholeTable.{ActingView, acting_view}
use Rattle.brl_tool.specs.Surveying.{IsTextOver, is_suspect_over}
use Rattle.brl_without.specs.Alphabet.{alphabet_view}
use Rattle.brl_tool.proofs.survey.report_of_table.Goals as goal

pub returns-clause-report : goal.returns-clause-report
returns-clause-report c =
    let cut = c.args.of.now.cut in
    let report = c.in_ok-report_of_acting.field-0 in
    let lines = ap (map acting_view) c.as_slice.ensures.value in (
      map acting_view c.in_ok-acting.acting.items,
      c.in_ok-acting.ensures.acting,
      subst (λ (acting : List ActingView). IsTextOver (alphabet_view c.args.alphabet.now) acting cut c.args.path.now (string_bytes report.text)) lines c.in_ok-report_of_acting.ensures.text,
      c.in_ok-report_of_acting.ensures.suspect ∙ ap (is_suspect_over cut) lines,
    )
