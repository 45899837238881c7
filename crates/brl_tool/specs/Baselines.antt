-- The files of pairs of rules that `brl clashes` reads and writes. The project's own choice.
use Rattle.std.specs.Prelude.{ℕ, ◌≡◌, ◌≢◌, ◌&&◌, All, Any, Bool, true, false, IsTrue, if◌then◌else◌, List, [], ◌∷◌, ◌++◌, Option, None, Some, length, nat_lt, not, string_bytes}
use Rattle.std.specs.Option.{option_copied, option_map_or}
use Rattle.std.specs.Str.{is_utf8}
use Rattle.brl_accepted.specs.Pairs.{wording}
use Rattle.brl_accepted.specs.Reading.{Names, accepted_count, excused_by, excused_of, if_whole, names_in, pruned, sets_named, stale_count}
use Rattle.brl_accepted.specs.Writing.{accepted_text}
use Rattle.brl_answers.specs.Files.{MayBeSame}
use Rattle.brl_answers.specs.declared.new_files.NewFiles.{NewFiles}
use Rattle.brl_answers.specs.declared.new_files.NewFiles.TheVariants.{Nothing}
use Rattle.brl_answers.specs.declared.run_fault.RunFault.{RunFault}
use Rattle.brl_answers.specs.declared.run_fault.RunFault.TheVariants.{Load, Memory, PairsWouldOverwrite}
use Rattle.brl_clashes.specs.Sections.{are_whole, listed_pairs}
use Rattle.brl_clashes.specs.Sets.{sets_of_table}
use Rattle.brl_clashes.specs.declared.accepted.Taken.{Taken}
use Rattle.brl_clashes.specs.declared.section.Section.{Section}
use Rattle.brl_cli.specs.declared.command.PairFiles.{PairFiles}
use Rattle.brl_lines.specs.Answer.{FileAnswer, FileAnswers, Holds, MayAnswer}
use Rattle.brl_lines.specs.Tokens.{LineView}
use Rattle.brl_lines.specs.declared.fault.LoadFaultKind.{LoadFaultKind}
use Rattle.brl_lines.specs.declared.fault.LoadFaultKind.TheVariants as kinds
use Rattle.brl_pairs.specs.declared.excused.Excused.{Excused}
use Rattle.brl_rules.specs.TableView.{TableView}
use Rattle.brl_tool.specs.FileBytes.{IsFileWith, LacksBytes}

-- ---- The text of a file

-- why a file has no text
abbrev pub LacksText : (FileAnswer → Type 0) → LoadFaultKind → Type 0
LacksText gives kinds.NotUtf8 = (bytes : List ℕ) × gives (Holds bytes) × (is_utf8 bytes ≡ false)
LacksText gives kind = LacksBytes gives kind

-- the file at a path has no text, and the fault names its path and no line; or memory ran out
abbrev pub IsFaultOfText : FileAnswers → List ℕ → RunFault → Type 0
IsFaultOfText gives path Memory = Unit {0}
IsFaultOfText gives path (Load fault) = (string_bytes fault.path ≡ path) × (fault.place ≡ None) × LacksText (MayAnswer gives path) fault.kind
IsFaultOfText gives path fault = ⊥

-- ---- The file of accepted pairs

-- a text is that of the file of accepted pairs; there is none where no file is asked for
abbrev pub IsBaseline : FileAnswers → Option (List ℕ) → Option (List ℕ) → Type 0
IsBaseline gives None baseline = baseline ≡ None
IsBaseline gives (Some path) baseline = (text : List ℕ) × (baseline ≡ Some text) × MayAnswer gives path (Holds text)

-- what a file of pairs may name of a table of these lines: its rules and its sets of characters
abbrev pub names_of_table : TableView → List LineView → Names
names_of_table t lines = names_in t lines (sets_of_table t)

-- what the text of a file excuses, whatever is listed; nothing without one
abbrev pub excused_by_text : Option (List ℕ) → TableView → List LineView → Excused
excused_by_text None t lines = record { accepted = []; exchanged = [] }
excused_by_text (Some text) t lines = excused_by (names_of_table t lines) None text

-- how much it excuses of the pairs that are listed: the number of these, those of the pairs and
-- sets that its lines name, and that of its stale lines, which are known where the list is whole
abbrev pub taken_by : Option (List ℕ) → Bool → TableView → List LineView → List (ℕ × ℕ) → Bool → Option Taken
taken_by None prune t lines listed whole = None
taken_by (Some text) prune t lines listed whole =
    let names = names_of_table t lines in
    let list = if_whole whole listed in
    let excused = excused_by names None text in
    Some (record {
      listed = length (excused_of excused listed);
      counts = record { pairs = accepted_count excused listed; sets = sets_named names list text };
      stale = stale_count names list text;
      pruned = prune;
    })

-- what is taken out of the pairs that sections list, and how much that is
pub record AreExcused (baseline : Option (List ℕ)) (prune : Bool) (t : TableView) (lines : List LineView) (sections : List Section) (pairs : List (ℕ × ℕ)) (taken : Option Taken) : Type 0 where
  pub pairs_are : pairs ≡ excused_of (excused_by_text baseline t lines) (listed_pairs sections)
  pub taken_is : taken ≡ taken_by baseline prune t lines (listed_pairs sections) (are_whole sections)

-- whether stale lines stay in the file
abbrev pub leaves_stale : Option Taken → Bool
leaves_stale taken = option_map_or (λ own. not own.pruned && nat_lt 0 own.stale) taken false

-- ---- The file that is written

-- pairs of rules as the text of a file
abbrev pub text_of_listed : TableView → List LineView → List (ℕ × ℕ) → List ℕ
text_of_listed t lines listed = accepted_text t (wording t lines) (sets_of_table t) listed

-- the pairs that sections list as such a text
abbrev pub text_of_pairs : TableView → List LineView → List Section → List ℕ
text_of_pairs t lines sections = text_of_listed t lines (listed_pairs sections)

-- the files of an answer: one with a text, where a path for it is asked for and the list is whole
abbrev pub AreFilesWith : Option (List ℕ) → Bool → List ℕ → NewFiles → Type 0
AreFilesWith None whole text files = files ≡ Nothing
AreFilesWith (Some path) false text files = files ≡ Nothing
AreFilesWith (Some path) true text files = IsFileWith path text files

-- the text of the file of accepted pairs without its stale lines, beside a list that may be whole
abbrev pub pruned_by : Option (List ℕ) → TableView → List LineView → List (ℕ × ℕ) → Bool → List ℕ
pruned_by baseline t lines listed whole = option_map_or (pruned (names_of_table t lines) (if_whole whole listed)) baseline []

-- beside that of these sections
abbrev pub pruned_text : Option (List ℕ) → TableView → List LineView → List Section → List ℕ
pruned_text baseline t lines sections = pruned_by baseline t lines (listed_pairs sections) (are_whole sections)

-- the path of the file that is written: that of the accepted pairs, where its stale lines are taken
-- out, else that which gets the pairs
abbrev pub written_path : PairFiles → Option (List ℕ)
written_path pairs = if pairs.prune then option_copied pairs.accept else option_copied pairs.write

-- whether it is written: where lines are stale, or where the list is whole
abbrev pub is_written_by : Bool → Option Taken → Bool → Bool
is_written_by prune taken whole = if prune then option_map_or (λ own. nat_lt 0 own.stale) taken false else whole

-- so it is for these sections
abbrev pub is_written : Bool → Option Taken → List Section → Bool
is_written prune taken left = is_written_by prune taken (are_whole left)

-- what is written
abbrev pub written_text : Bool → Option (List ℕ) → TableView → List LineView → List Section → List Section → List ℕ
written_text prune baseline t lines found left = if prune then pruned_text baseline t lines found else text_of_pairs t lines left

-- the paths of the files that are read: those of a table, and that of the accepted pairs
abbrev pub read_paths : List (List ℕ) → Option (List ℕ) → List (List ℕ)
read_paths paths None = paths
read_paths paths (Some path) = paths ++ path ∷ []

-- the paths of the files that are only read: that of the accepted pairs isn't one of them where
-- stale lines are taken out of it
abbrev pub only_read : List (List ℕ) → PairFiles → List (List ℕ)
only_read paths pairs = read_paths paths (if pairs.prune then None else option_copied pairs.accept)

-- the file that is written is at none of these paths
abbrev pub IsApart : Option (List ℕ) → List (List ℕ) → Type 0
IsApart None paths = Unit {0}
IsApart (Some out) paths = All (λ one. one ≢ out) paths

-- the fault names one of these paths, which may be the file that is written; or memory ran out
abbrev pub IsOverwritingRead : MayBeSame → List (List ℕ) → Option (List ℕ) → RunFault → Type 0
IsOverwritingRead same paths write (PairsWouldOverwrite file) =
    (out : List ℕ) × (write ≡ Some out) × Any (λ one. (one ≡ string_bytes file) × IsTrue (same one out)) paths
IsOverwritingRead same paths write Memory = Unit {0}
IsOverwritingRead same paths write fault = ⊥
