use Rattle.std.proofs.Common.{◌≡◌, ◌++◌, drop}
use Rattle.std.specs.Prelude.{option_map}
use Rattle.brl_stream.specs.Output.{marks_of}
use Rattle.brl_stream.proofs.output.push_marks.Given as goal

abbrev pub invariant-loop-cell : goal.invariant-loop-cell
invariant-loop-cell l =
    option_map (λ more. l.output.items ++ more) (marks_of l.form (drop l.cell-index l.cells)) ≡ option_map (λ more. l.initial.output.items ++ more) (marks_of l.form l.cells)
