use Rattle.std.proofs.Common.{◌∙◌}
use Rattle.brl_acting.specs.WholeTable.{line_place}
use Rattle.brl_lines.specs.Views.{line_view}
use Rattle.brl_acting.proofs.whole_table.has_line.Goals as goal

pub returns : goal.returns
returns c = λ all holds. c.contains.ensures ∙ holds (line_place (line_view c.args.line.now))
