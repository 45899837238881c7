-- The text of a fault of a file of pairs of rules. The project's own choice.
use Rattle.std.specs.Prelude.{ℕ, List, ◌++◌, codes, string_bytes}
use Rattle.std.specs.Fmt.{decimal}
use Rattle.brl_accepted.specs.declared.fault.ExcuseFault.{ExcuseFault}
use Rattle.brl_accepted.specs.declared.fault.ExcuseFaultKind.{ExcuseFaultKind}
use Rattle.brl_accepted.specs.declared.fault.ExcuseFaultKind.TheVariants.{NoSuchRules, NoSuchSet, NotListed}

-- the code and the name of a kind of fault
abbrev pub kind_text : ExcuseFaultKind → List ℕ
kind_text NoSuchRules = codes "P1 NoSuchRules"
kind_text NotListed = codes "P2 NotListed"
kind_text NoSuchSet = codes "P3 NoSuchSet"

-- the text of a fault, as `P2 NotListed word but 12 / letter b 12 at word.pairs:3`
abbrev pub fault_text : ExcuseFault → List ℕ
fault_text found =
    kind_text found.kind ++ (codes " " ++ (string_bytes found.subject ++ (codes " at " ++ (string_bytes found.file ++ (codes ":" ++ decimal found.line)))))

-- a stale line as a contract sees it: its fault, the line, the path of its file, and its number
pub record FaultView : Type 0 where
  pub kind : ExcuseFaultKind
  pub subject : List ℕ
  pub file : List ℕ
  pub line : ℕ

abbrev pub fault_view : ExcuseFault → FaultView
fault_view found = record { kind = found.kind; subject = string_bytes found.subject; file = string_bytes found.file; line = found.line }
