-- Internal. How the output of one line is made and written.
use Rattle.std.specs.Prelude.{ℕ, ◌≡◌, Bool, true, List, [], ◌++◌, Option, None, Some, option_map, Result, Ok, Err}
use Rattle.std.specs.Io.KnownBytes.{Appends}
use Rattle.brl_failure.specs.Failure.{IfFault}
use Rattle.brl_failure.specs.declared.failure.Failure.{Failure}
use Rattle.brl_failure.specs.declared.failure.Failure.TheVariants as failures
use Rattle.brl_stream.specs.Output.{LineResult, at_line}
use Rattle.brl_stream.specs.declared.fault.LineFault.{LineFault}
use Rattle.brl_stream.specs.declared.fault.LineFault.TheVariants as faults
use Rattle.brl_stream.specs.declared.fault.StreamFault.{StreamFault}
use Rattle.brl_forward.specs.declared.fault.ForwardFault.{ForwardFault}
use Rattle.brl_forward.specs.declared.fault.ForwardFault.TheVariants as forward

-- a fault of translation, as the fault of a line
abbrev pub line_fault_of : ForwardFault → LineFault
line_fault_of (forward.UnknownChar position) = faults.UnknownChar position

-- the marks were added at the end of a buffer, if each cell has one
abbrev pub Pushes : Option (List ℕ) → List ℕ → List ℕ → Result (Unit {0}) (Failure LineFault) → Type 0
Pushes marks old new (Ok done) = option_map (λ more. old ++ more) marks ≡ Some new
Pushes marks old new (Err failure) = IfFault (λ fault. (marks ≡ None) × (fault ≡ faults.NoAscii)) failure

-- the buffer has the output of a line, or the line has this fault
abbrev pub IsMade : LineResult → List ℕ → Result (Unit {0}) (Failure LineFault) → Type 0
IsMade output buffer (Ok done) = output ≡ Ok buffer
IsMade output buffer (Err failure) = IfFault (λ fault. output ≡ Err fault) failure

-- a line without output was passed over, or ends the stream by its fault at this line
abbrev pub IsPassedOver : Bool → ℕ → Failure LineFault → Result (Unit {0}) (Failure StreamFault) → Type 0
IsPassedOver passes number (failures.Fault (faults.UnknownChar position)) (Ok done) = passes ≡ true
IsPassedOver passes number failure (Ok done) = ⊥
IsPassedOver passes number failure (Err failures.Memory) = Unit {0}
IsPassedOver passes number failures.Memory (Err (failures.Fault found)) = ⊥
IsPassedOver true number (failures.Fault (faults.UnknownChar position)) (Err (failures.Fault found)) = ⊥
IsPassedOver passes number (failures.Fault fault) (Err (failures.Fault found)) = found ≡ at_line number fault

-- what was written of a line's output before this fault
abbrev pub WritesBefore : LineResult → Option (List ℕ) → Option (List ℕ) → LineFault → Type 0
WritesBefore output old new faults.InputFailed = ⊥
WritesBefore output old new faults.OutputFailed = (front : List ℕ) × (rest : List ℕ) × (output ≡ Ok (front ++ rest)) × Appends old new front
WritesBefore output old new fault = (output ≡ Err fault) × Appends old new []

-- what was written of the output of the line with this number, by the outcome of the call
abbrev pub WritesOutput : LineResult → ℕ → Option (List ℕ) → Option (List ℕ) → Result (Unit {0}) (Failure StreamFault) → Type 0
WritesOutput output number old new (Ok done) = (bytes : List ℕ) × (output ≡ Ok bytes) × Appends old new bytes
WritesOutput output number old new (Err failures.Memory) = Appends old new []
WritesOutput output number old new (Err (failures.Fault found)) = (found.line ≡ number) × WritesBefore output old new found.fault
