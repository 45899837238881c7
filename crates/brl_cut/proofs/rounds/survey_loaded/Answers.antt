use Rattle.std.proofs.Common.{◌∙◌, ap, map}
use Rattle.brl_lines.specs.Lines.{location_of}
use Rattle.brl_lines.specs.Views.{line_view}
use Rattle.brl_table.specs.Survey.{survey_of}
use Rattle.brl_cut.proofs.rounds.survey_loaded.Goals as goal

pub returns-clause-faulty : goal.returns-clause-faulty
returns-clause-faulty c =
    ap (λ found. found.faulty) c.in_ok-found.ensures ∙ ap (λ ls. (survey_of ls).faulty) (ap (map line_view) c.as_slice.ensures.value ∙ c.in_ok-lines.ensures.lines)

pub returns-clause-places : goal.returns-clause-places
returns-clause-places c = c.in_ok-places.ensures ∙ ap (map location_of) (ap (map line_view) c.as_slice-2.ensures.value ∙ c.in_ok-lines.ensures.lines)
