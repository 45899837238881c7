-- The exit statuses, and the status of each fault. The project's own choice.
use Rattle.std.specs.Prelude.{ℕ}
use Rattle.brl_failure.specs.declared.failure.Failure.{Failure}
use Rattle.brl_failure.specs.declared.failure.Failure.TheVariants as failures
use Rattle.brl_cut.specs.declared.cutting.CutFault.{CutFault}
use Rattle.brl_cut.specs.declared.cutting.CutFault.TheVariants as cut_fault
use Rattle.brl_lines.specs.declared.gathering.GatherFault.TheVariants as gather_fault
use Rattle.brl_table.specs.declared.no_table.NoTable.{NoTable}
use Rattle.brl_table.specs.declared.no_table.NoTable.TheVariants as no_table
use Rattle.brl_answers.specs.declared.run_fault.RunFault.{RunFault}
use Rattle.brl_answers.specs.declared.run_fault.RunFault.TheVariants.{LeadsOut, Load, Table, Wide, Memory}
use Rattle.brl_answers.specs.declared.status.Status.{Status}
use Rattle.brl_answers.specs.declared.status.Status.TheVariants.{Done, Refuted, Faulty, Undecided}

-- the number of a status
abbrev pub code_of : Status → ℕ
code_of Done = 0
code_of Refuted = 1
code_of Faulty = 2
code_of Undecided = 3

-- the status of a fault: nothing was decided where memory ran out or the table is too wide
abbrev pub status_of : RunFault → Status
status_of Memory = Undecided
status_of (Wide fault) = Undecided
status_of fault = Faulty

-- the fault of the program where there is no table
abbrev pub of_no_table : NoTable → RunFault
of_no_table (no_table.Load fault) = Load fault
of_no_table (no_table.Table fault) = Table fault

-- the fault of the program where a table isn't cut
abbrev pub of_cut_fault : CutFault → RunFault
of_cut_fault (cut_fault.Gather (gather_fault.Load fault)) = Load fault
of_cut_fault (cut_fault.Gather (gather_fault.LeadsOut fault)) = LeadsOut fault
of_cut_fault (cut_fault.Load fault) = Load fault
of_cut_fault (cut_fault.NotRead fault) = of_no_table fault

-- the fault of the program after a failure, whose fault becomes the program's
abbrev pub of_failure : {E : Type 0} → (E → RunFault) → Failure E → RunFault
of_failure run_fault (failures.Fault fault) = run_fault fault
of_failure run_fault failures.Memory = Memory
