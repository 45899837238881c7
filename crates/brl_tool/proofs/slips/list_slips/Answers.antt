use Rattle.std.proofs.Common.{◌∙◌, ap, map, subst}
use Rattle.brl_lines.specs.Views.{line_view}
use Rattle.brl_slips.specs.Lines.{IsLexicon}
use Rattle.brl_tool.proofs.slips.list_slips.Goals as goal

pub returns : goal.returns
returns c = record {
  lexicon = c.in_ok-lexicon.lexicon;
  found = c.in_ok-findings.findings;
  are = record {
    read = subst (λ lines. IsLexicon lines c.in_ok-lexicon.lexicon) (ap (map line_view) c.as_slice.ensures.value ∙ c.in_ok-lines.ensures.lines) c.in_ok-lexicon.ensures;
    slips = c.in_ok-findings.ensures.slips;
    habits = c.in_ok-findings.ensures.habits;
    shown = c.in_ok-findings.ensures.shown;
    sorted = c.in_ok-findings.ensures.sorted;
    twins = c.in_ok-findings.ensures.twins;
  };
  status = c.new.ensures.0 ∙ c.status_of.ensures;
  files = c.new.ensures.2;
}
