-- The readable part of a table as files of their own. The project's own choice.
use Rattle.std.specs.Prelude.{ℕ, Bool, ◌≡◌, ◌⊎◌, List, [], ◌∷◌, ◌++◌, codes, map, string_bytes, zip, Ok, Err}
use Rattle.brl_lines.specs.Answer.{FileAnswers, answer_of, same_answer}
use Rattle.brl_lines.specs.GatherFaults.{IsGatherFault, IsGathered, gathered_view}
use Rattle.brl_lines.specs.Gathering.{GatheredView, LeftView}
use Rattle.brl_lines.specs.Includes.{last_part, path_in}
use Rattle.brl_lines.specs.Tokens.{LineView}
use Rattle.brl_lines.specs.Views.{load_fault_view}
use Rattle.brl_lines.specs.declared.fault.LoadFault.{LoadFault}
use Rattle.brl_lines.specs.declared.gathering.Gathered.{Gathered}
use Rattle.brl_lines.specs.declared.way.IncludeReason.{IncludeReason}
use Rattle.brl_lines.specs.declared.way.IncludeReason.TheVariants.{Dictionary, Missing, Repeated}
use Rattle.brl_table.specs.Faults.{IsFaultAt}
use Rattle.brl_table.specs.Files.{IsTableOf}
use Rattle.brl_table.specs.Survey.{FaultyLineView, faulty_line_view}
use Rattle.brl_table.specs.Items.{fault}
use Rattle.brl_table.specs.declared.no_table.NoTable.{NoTable}
use Rattle.brl_table.specs.declared.table_fault.TableFaultKind.TheVariants.{OutsideProfile}
use Rattle.brl_rules.specs.TableView.{TableView}
use Rattle.brl_cut.specs.Edits.{EditView, Texts, edited_files}
use Rattle.brl_cut.specs.Files.{file_view}
use Rattle.brl_cut.specs.Letsigns.{made_name}
use Rattle.brl_cut.specs.Rewriting.{Around, RewrittenView, count_rewritten, rewritten}
use Rattle.brl_cut.specs.Rounds.{IsUnsettled}
use Rattle.brl_cut.specs.Settling.{IsSettled, bytes_at, comment, fault_edit, lines_among}
use Rattle.brl_table.specs.declared.readable.Cut.{Cut}
use Rattle.brl_cut.specs.declared.outcome.CutTable.{CutTable}
use Rattle.brl_cut.specs.declared.cutting.CutFault.{CutFault}
use Rattle.brl_cut.specs.declared.cutting.CutFault.TheVariants.{Gather, Load, NotRead}

-- ---- Include lines that are left out

-- why an include line is left out
abbrev pub include_reason : IncludeReason → List ℕ
include_reason Dictionary = codes "dictionary"
include_reason Repeated = codes "repeated"
include_reason Missing = codes "L1 NotFound"

-- the edit that makes an include line a comment, which says why
abbrev pub include_edit : LeftView → EditView
include_edit left = record { file = left.file; line = left.line; prefix = comment (include_reason left.reason ++ (codes " " ++ left.name)) }

-- an include line that is left out, as the faulty line that it is after loading
abbrev pub include_fault : LeftView → FaultyLineView
include_fault left = record {
  opcode = codes "include";
  fault = record { fault = fault OutsideProfile (codes "include"); file = left.file; line = left.line };
}

-- files where these include lines are comments
abbrev pub without_include_lines : List LeftView → Texts → Texts
without_include_lines left_out files = edited_files (map include_edit left_out) files

-- the files with the include lines that are left out as comments
abbrev pub without_includes : GatheredView → Texts
without_includes gathered = without_include_lines gathered.left_out gathered.files

-- ---- Lines that are rewritten

-- the path at which the root was found: that of the first file
abbrev pub home_of : Texts → List ℕ → List ℕ
home_of [] root = root
home_of (file ∷ others) root = file.0

-- where gathered files are
abbrev pub around_of : List (List ℕ) → List ℕ → GatheredView → Around
around_of folders root gathered = record { folders = folders; names = gathered.names; root = root; home = home_of gathered.files root }

-- the files that are settled: without the include lines that are left out, and rewritten where this
-- is asked for
abbrev pub start : Bool → List (List ℕ) → List ℕ → GatheredView → RewrittenView
start rewrite folders root gathered = rewritten rewrite (around_of folders root gathered) (without_includes gathered)

-- the files as they are written: the lines that were found faulty are comments, each of the line as
-- it was, and the others are rewritten
abbrev pub finished : RewrittenView → List FaultyLineView → GatheredView → Texts
finished new found gathered = edited_files (new.edits ++ map fault_edit found) (without_includes gathered ++ new.made)

-- the names of gathered files, and of those that are made
abbrev pub all_names : RewrittenView → GatheredView → List (List ℕ)
all_names new gathered = gathered.names ++ map (λ file. made_name) new.made

-- these files can't be loaded as they are, or those that are rewritten can't be settled
abbrev pub IsUnloaded : Bool → Around → Texts → LoadFault → Type 0
IsUnloaded rewrite around files why =
    (lines_among around.folders files around.root ≡ Err (load_fault_view why))
    ⊎ IsUnsettled around.folders around.root (rewritten rewrite around files).files why

-- ---- Where the files are written

-- the path where the root that has a path is written into a folder: under the last part of its path
abbrev pub written_root : List ℕ → List ℕ → List ℕ
written_root dir root = path_in dir (last_part root)

-- files with these names, at the paths where they are written into a folder: each under its name
abbrev pub written_files : List ℕ → List (List ℕ) → Texts → Texts
written_files dir names files = map (λ entry. (path_in dir entry.0, entry.1.1)) (zip names files)

-- ---- The cut

-- what these files give, where there are no others, and where they are looked for in these folders
abbrev pub only : List (List ℕ) → Texts → FileAnswers
only folders files = record { folders = folders; may = λ path answer. same_answer answer (answer_of (bytes_at files path)) }

-- these files, and no others, define this table with its root at a path, and are looked for in no
-- folders
abbrev pub IsReadAs : Texts → List ℕ → TableView → Type 0
IsReadAs files root t = IsTableOf (only [] files) root t

-- they define a table
abbrev pub IsRead : Texts → List ℕ → Type 0
IsRead files root = (t : TableView) × IsReadAs files root t

-- these files define none, and this is why
abbrev pub IsUnreadAs : Texts → List ℕ → NoTable → Type 0
IsUnreadAs files root why = IsFaultAt (only [] files) root why

-- The cut of files that were gathered, where they were looked for in these folders too, for a
-- folder: lines are rewritten where this is asked for, the files are settled, and what is finished
-- is written into the folder. `found` are the faulty lines, and `lines` those that are kept;
-- `cut.rewritten` is how many of these are rewritten.
pub record IsCutOf (rewrite : Bool) (folders : List (List ℕ)) (gathered : GatheredView) (root dir : List ℕ) (cut : Cut) : Type 0 where
  pub settled : Texts
  pub found : List FaultyLineView
  pub lines : List LineView
  pub settles : IsSettled folders root (start rewrite folders root gathered).files settled found lines
  pub files_are :
      map file_view cut.files.items
      ≡ written_files dir (all_names (start rewrite folders root gathered) gathered) (finished (start rewrite folders root gathered) found gathered)
  pub paths_are : map string_bytes cut.paths.items ≡ map (λ file. file.0) (gathered.files ++ (start rewrite folders root gathered).made)
  pub left_out_are : map faulty_line_view cut.left_out.items ≡ map include_fault gathered.left_out ++ found
  pub kept_are : map string_bytes cut.line_files.items ≡ map (λ line. line.file) lines
  pub rewritten_is : cut.rewritten ≡ count_rewritten (start rewrite folders root gathered).edits lines

-- these files, which have their paths in the folder, define no table, and this is why
abbrev pub IsUnwritten : Texts → List ℕ → List ℕ → CutFault → Type 0
IsUnwritten files root dir (NotRead why) = IsUnreadAs files (written_root dir root) why
IsUnwritten files root dir other = ⊥

-- the files that were gathered, without the include lines that are left out, have these lines
abbrev pub AreWhole : List (List ℕ) → List ℕ → GatheredView → List LineView → Type 0
AreWhole folders root gathered lines = lines_among folders (without_includes gathered) root ≡ Ok lines

-- the cut of the table whose root has a path, for answers of the source: of these files, as they
-- were gathered; with the lines that they had; and its files define this table
abbrev pub IsCut : Bool → FileAnswers → List ℕ → List ℕ → CutTable → Type 0
IsCut rewrite gives root dir of =
    IsGathered gives root of.gathered × AreWhole gives.folders root (gathered_view of.gathered) of.whole.lines
    × IsCutOf rewrite gives.folders (gathered_view of.gathered) root dir of.cut
    × IsReadAs (map file_view of.cut.files.items) (written_root dir root) of.table

-- files that were gathered can't be loaded or settled, or what is written is no table
abbrev pub IsUncut : Bool → List (List ℕ) → List ℕ → List ℕ → GatheredView → CutFault → Type 0
IsUncut rewrite folders root dir gathered (Gather why) = ⊥
IsUncut rewrite folders root dir gathered (Load why) = IsUnloaded rewrite (around_of folders root gathered) (without_includes gathered) why
IsUncut rewrite folders root dir gathered (NotRead why) =
    (cut : Cut) × IsCutOf rewrite folders gathered root dir cut × IsUnreadAs (map file_view cut.files.items) (written_root dir root) why

-- why a table isn't cut: its files can't be gathered; or they are, and this is why
abbrev pub IsCutFault : Bool → FileAnswers → List ℕ → List ℕ → CutFault → Type 0
IsCutFault rewrite gives root dir (Gather why) = IsGatherFault gives root why
IsCutFault rewrite gives root dir why = (gathered : Gathered) × IsGathered gives root gathered × IsUncut rewrite gives.folders root dir (gathered_view gathered) why
