-- What gathering the files of a table gives: its files, or why they can't be gathered. The
-- project's own choice.
use Rattle.std.specs.Prelude.{◌≡◌, ℕ, List, [], ◌∷◌, flat_map, map, Option, Some, None, Result, Ok, Err, string_bytes}
use Rattle.brl_lines.specs.Answer.{FileAnswer, FileAnswers, Holds}
use Rattle.brl_lines.specs.Gathered.{left_view, out_view}
use Rattle.brl_lines.specs.Gathering.{GatheredView}
use Rattle.brl_lines.specs.Lines.{Answers, OutView, Refusal, Walk, WayView, answer_at, walk_over}
use Rattle.brl_lines.specs.Outcome.{AreGiven, IsReadFailure}
use Rattle.brl_lines.specs.Views.{load_fault_view}
use Rattle.brl_lines.specs.declared.gathering.GatherFault.{GatherFault}
use Rattle.brl_lines.specs.declared.gathering.GatherFault.TheVariants as faults
use Rattle.brl_lines.specs.declared.gathering.Gathered.{Gathered}
use Rattle.brl_lines.specs.declared.way.Policy.TheVariants.{Gather}

-- why nothing is gathered: a file is refused, or an include line leads out of the root's folder
pub data GatherRefusal : Type 0 where
  Refused : Refusal → GatherRefusal
  Outside : OutView → GatherRefusal

-- the bytes of a file that is known to be there
abbrev pub held : Option FileAnswer → Option (List ℕ)
held (Some (Holds bytes)) = Some bytes
held answer = None

-- a file with these bytes, as a list; empty where there are none
abbrev pub file_if : List ℕ → Option (List ℕ) → List (List ℕ × List ℕ)
file_if path (Some bytes) = (path, bytes) ∷ []
file_if path None = []

-- the files on a way, and what it left out
abbrev pub gathered_on : (List ℕ → Option FileAnswer) → WayView → GatheredView
gathered_on answer way = record {
  files = flat_map (λ path. file_if path (held (answer path))) way.paths;
  names = way.names;
  left_out = way.left_out;
}

-- what is gathered, unless an include line leads out
abbrev pub unless_out : Option OutView → GatheredView → Result GatheredView GatherRefusal
unless_out (Some out) found = Err (Outside out)
unless_out None found = Ok found

-- what a walk gathers
abbrev pub gathered_by : (List ℕ → Option FileAnswer) → Result Walk Refusal → Result GatheredView GatherRefusal
gathered_by answer (Ok walk) = unless_out walk.way.out (gathered_on answer walk.way)
gathered_by answer (Err refused) = Err (Refused refused)

-- the files of the table whose root has a path, by what is known of each path, where files are
-- looked for in these folders too
abbrev pub gathered_from : List (List ℕ) → (List ℕ → Option FileAnswer) → List ℕ → Result GatheredView GatherRefusal
gathered_from folders answer root = gathered_by answer (walk_over Gather folders answer root)

-- what is gathered, as the code has it
abbrev pub gathered_view : Gathered → GatheredView
gathered_view found = record {
  files = map (λ file. (string_bytes file.path, file.bytes.items)) found.files.items;
  names = map string_bytes found.names.items;
  left_out = map left_view found.left_out.items;
}

-- what is gathered of the table whose root is at a path, for answers of the source
abbrev pub IsGathered : FileAnswers → List ℕ → Gathered → Type 0
IsGathered gives root found =
    (answers : Answers) × AreGiven gives answers × (gathered_from gives.folders (answer_at answers) root ≡ Ok (gathered_view found))

-- why nothing is gathered, as the code has it
abbrev pub gather_fault_view : GatherFault → GatherRefusal
gather_fault_view (faults.Load fault) = Refused (load_fault_view fault)
gather_fault_view (faults.LeadsOut out) = Outside (out_view out)

-- a file that is refused as unreadable is one that the source may be unable to read
abbrev pub IsUnreadFile : FileAnswers → GatherFault → Type 0
IsUnreadFile gives (faults.Load fault) = IsReadFailure gives (load_fault_view fault)
IsUnreadFile gives (faults.LeadsOut out) = Unit {0}

-- why the files of the table whose root is at a path aren't gathered, for answers of the source
abbrev pub IsGatherFault : FileAnswers → List ℕ → GatherFault → Type 0
IsGatherFault gives root fault =
    (answers : Answers) × AreGiven gives answers × (gathered_from gives.folders (answer_at answers) root ≡ Err (gather_fault_view fault)) × IsUnreadFile gives fault
