use Rattle.std.proofs.Common.{map}
use Rattle.brl_lines.specs.Views.{line_view}
use Rattle.brl_table.specs.Faults.{second_pass_fault}
use Rattle.brl_table.proofs.SurveySteps.{AreFound}
use Rattle.brl_table.proofs.faulty.find_unresolved.Given as goal

abbrev pub invariant-loop-place : goal.invariant-loop-place
invariant-loop-place l = AreFound (second_pass_fault (map line_view l.lines)) (map line_view l.lines) l.place l.found.items
