-- What `brl slips` answers. The project's own choice.
use Rattle.std.specs.Prelude.{ℕ, ◌≡◌, ◌==◌, ◌&&◌, Bool, false, if◌then◌else◌, List, length, Result}
use Rattle.std.specs.List.Sorted.{IsPermutation, IsSorted}
use Rattle.brl_lines.specs.Answer.{FileAnswers}
use Rattle.brl_lines.specs.Gathering.{LeftView}
use Rattle.brl_lines.specs.Skipping.{AreLinesWithout, IsUnloaded}
use Rattle.brl_lines.specs.Tokens.{LineView}
use Rattle.brl_slips.specs.Habits.{AreHabits}
use Rattle.brl_slips.specs.Lines.{IsLexicon}
use Rattle.brl_slips.specs.Order.{slip_cmp}
use Rattle.brl_slips.specs.Shown.{kept_of}
use Rattle.brl_slips.specs.Slips.{AreSlips}
use Rattle.brl_slips.specs.Twins.{AreTwins}
use Rattle.brl_slips.specs.declared.findings.Findings.{Findings}
use Rattle.brl_slips.specs.declared.lexicon.Lexicon.{Lexicon}
use Rattle.brl_answers.specs.Answers.{EndsAs, Then, UnlessMemory}
use Rattle.brl_answers.specs.declared.answer.Answer.{Answer}
use Rattle.brl_answers.specs.declared.new_files.NewFiles.TheVariants.{Nothing}
use Rattle.brl_answers.specs.declared.run_fault.RunFault.{RunFault}
use Rattle.brl_answers.specs.declared.run_fault.RunFault.TheVariants.{Load}
use Rattle.brl_answers.specs.declared.status.Status.{Status}
use Rattle.brl_answers.specs.declared.status.Status.TheVariants.{Done, Refuted}

-- whether nothing is shown: no slip, and no twins
abbrev pub shows_none : Findings → Bool
shows_none found = length found.shown.items == 0 && length found.twins.items == 0

-- the status of what is found
abbrev pub status_of_slips : Findings → Status
status_of_slips found = if shows_none found then Done else Refuted

-- this is what is found among the lines of a table: the slips, the habits, the slips that are shown
-- and their order, and the twins
pub record AreFindings (lines : List LineView) (lexicon : Lexicon) (found : Findings) : Type 0 where
  pub read : IsLexicon lines lexicon
  pub slips : AreSlips lexicon found.judged found.slips.items
  pub habits : AreHabits lexicon found.slips.items found.habits.items
  pub shown : IsPermutation (kept_of lexicon found.slips.items) found.shown.items
  pub sorted : IsSorted (slip_cmp found.slips.items) found.shown.items
  pub twins : AreTwins lexicon found.twins.items

-- the answer has what is found among these lines, no files, and this status
pub record IsSlipsAnswer (lines : List LineView) (answer : Answer) : Type 0 where
  pub lexicon : Lexicon
  pub found : Findings
  pub are : AreFindings lines lexicon found
  pub status : answer.status ≡ status_of_slips found
  pub files : answer.files ≡ Nothing

-- these are the lines of a table that is loaded without its hyphenation dictionaries
abbrev pub AreLinesOf : FileAnswers → List ℕ → List LineView → Type 0
AreLinesOf gives path lines = (skipped : List LeftView) × (paths : List (List ℕ)) × AreLinesWithout gives path skipped paths lines

-- the slips of the table at a path were listed, whatever lines aren't read; or it can't be loaded
abbrev pub ListsSlips : FileAnswers → List ℕ → Result Answer RunFault → Type 0
ListsSlips gives path outcome = Then (AreLinesOf gives path) (EndsAs Load (IsUnloaded gives path)) (λ lines. UnlessMemory (IsSlipsAnswer lines)) outcome

-- the table at a path has slips or twins that are shown
abbrev pub HasSlips : FileAnswers → List ℕ → Type 0
HasSlips gives path = (lines : List LineView) × AreLinesOf gives path lines
    × ((lexicon : Lexicon) × (found : Findings) × AreFindings lines lexicon found × (shows_none found ≡ false))
