use Rattle.brl_cells.proofs.Tables.{ascii_marks_differ, ascii_marks_range}
use Rattle.brl_cells.proofs.laws.ascii_marks_differ.Goals as goal

pub returns : goal.returns
returns c = record { differ = ascii_marks_differ; range = ascii_marks_range }
