use Rattle.std.proofs.Common.{◌≡◌, ◌∙◌, ap, rules, string_bytes}
use Rattle.std.specs.Option.{option_copied}
use Rattle.brl_report.specs.Report.{report_text}
use Rattle.brl_search.specs.declared.scoped.Searched.TheVariants.{Found}
use Rattle.brl_search.specs.declared.table_search.Found.TheVariants.{Clashing}
use Rattle.brl_tool.proofs.SearchLemmas.{certificate_found, verdict_of}
use Rattle.brl_without.specs.Alphabet.{alphabet_view}
use Rattle.brl_tool.proofs.search.answer_of.Goals as goal

pub returns-in-Certified : goal.returns-in-Certified
returns-in-Certified c limit is =
    let but_for = c.args.but_for in
    certificate_found (alphabet_view but_for.alphabet.now) (option_copied but_for.accept) but_for.excusal.now c.args.table.now limit c.args.out.now c.requires.defined (Found c.args.found.now) c.in-Certified.cert (ap Found c.in-Certified.is) is c.certificate.result c.certificate.ensures

pub returns-in_ok-report-in-Clashing : goal.returns-in_ok-report-in-Clashing
returns-in_ok-report-in-Clashing c limit is =
    let but_for = c.args.but_for in
    let clash = c.in-Clashing.clash in
    let text : string_bytes c.in_ok-report-in-Clashing.field-0 ≡ report_text c.args.table.now clash.left clash.right clash.cells = search rules in
    verdict_of (alphabet_view but_for.alphabet.now) (option_copied but_for.accept) but_for.excusal.now c.args.table.now limit c.args.out.now (Found c.args.found.now) (Found (Clashing clash)) (ap Found c.in-Clashing.is) is c.new.result
    (c.new.ensures.0, c.new.ensures.1 ∙ text, c.new.ensures.2)

pub report-requires : goal.report-requires
report-requires c = (rw c.in-Clashing.is at c.requires.found.1).found_for.0.clash
