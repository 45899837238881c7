use Rattle.brl_stream.proofs.SameOutput.{same_line, same_lines}
use Rattle.brl_stream.proofs.laws.same_output_law.Goals as goal

pub returns-clause-lines : goal.returns-clause-lines
returns-clause-lines c t form single left right output of_left of_right =
    same_line c.ascii_marks_differ.ensures.differ c.ascii_marks_differ.ensures.range t form single left right output of_left of_right

pub returns-clause-inputs : goal.returns-clause-inputs
returns-clause-inputs c t form single left right output of_left of_right =
    same_lines c.ascii_marks_differ.ensures.differ c.ascii_marks_differ.ensures.range t form single left right output of_left of_right
