-- How the sections of a list are shown, each when it is found. The project's own choice.
use Rattle.std.specs.Prelude.{ℕ, ◌≡◌, ◌&&◌, List, [], ◌++◌, Option, Some, Result, Ok, Err, map}
use Rattle.std.specs.Io.KnownBytes.{Appends}
use Rattle.brl_accepted.specs.Reading.{is_excused}
use Rattle.brl_answers.specs.declared.run_fault.RunFault.{RunFault}
use Rattle.brl_answers.specs.declared.run_fault.RunFault.TheVariants.{Memory, OutputFailed}
use Rattle.brl_clashes.specs.Accepted.{AreLeftOf, IsLeftOf, is_less}
use Rattle.brl_clashes.specs.ClashesText.{AreSectionTexts, IsListText, counts_of, last_counts}
use Rattle.brl_clashes.specs.SectionText.{IsSectionText}
use Rattle.brl_clashes.specs.Sections.{AreFirst, AreSections, are_whole, is_whole, list_none, listed_after, listed_pairs, lists_none}
use Rattle.brl_clashes.specs.Sets.{FirstsView, firsts_of, plain}
use Rattle.brl_clashes.specs.declared.list_form.ListForm.{ListForm}
use Rattle.brl_clashes.specs.declared.list_request.ListRequest.{ListRequest}
use Rattle.brl_clashes.specs.declared.section.Section.{Section}
use Rattle.brl_clashes.specs.declared.tally.Tally.{Tally}
use Rattle.brl_lines.specs.Tokens.{LineView}
use Rattle.brl_lines.specs.Views.{line_view}
use Rattle.brl_pairs.specs.declared.excused.Excused.{Excused}
use Rattle.brl_rules.specs.TableView.{TableView}

-- which clashes are listed, and how: those of a table of some lines, for texts that use none of
-- some characters, with a limit, in a form, beside what a file excuses
pub record Asked : Type 0 where
  pub table : TableView
  pub lines : List LineView
  pub left_out : List ℕ
  pub limit : ℕ
  pub form : ListForm
  pub excused : Excused

-- what a call gives of these
abbrev pub asked_of : ListRequest → Asked
asked_of of = record {
  table = of.table.now;
  lines = map line_view of.lines.now;
  left_out = of.left_out.now;
  limit = of.limit;
  form = of.form;
  excused = of.excused.now;
}

-- which own definitions represent others
abbrev pub firsts_in : Asked → FirstsView
firsts_in asked = firsts_of asked.table (plain asked.table asked.left_out)

-- ---- What is kept

-- what is kept of these sections, where `left` is what is left of them
pub record IsTally (sections left : List Section) (tally : Tally) : Type 0 where
  pub whole : tally.whole ≡ are_whole left
  pub none : tally.none ≡ list_none left
  pub counts : tally.counts ≡ last_counts left
  pub found_pairs : tally.found ≡ listed_pairs sections
  pub left_pairs : tally.left ≡ listed_pairs left

-- what is kept once section `s` is noted too, where `left` is what is left of it
pub record IsTallyWith (s left : Section) (before after : Tally) : Type 0 where
  pub whole : after.whole ≡ (before.whole && is_whole left.found)
  pub none : after.none ≡ (before.none && lists_none left.found)
  pub counts : after.counts ≡ Some (counts_of left.found)
  pub found_pairs : after.found ≡ listed_after before.found s
  pub left_pairs : after.left ≡ listed_after before.left left

-- ---- What is shown

-- the text of what is left of a section, after sections with these pairs of rules
pub record IsShown (asked : Asked) (before : List (ℕ × ℕ)) (s left : Section) (text : List ℕ) : Type 0 where
  pub beside : IsLeftOf (is_excused asked.excused) s left
  pub shows : IsSectionText asked.table asked.lines (firsts_in asked) asked.form (is_less s left) before left text

-- these are the first sections of a list, and what is left of them
pub record AreFound (asked : Asked) (sections left : List Section) : Type 0 where
  pub first : AreFirst asked.table asked.left_out asked.limit sections
  pub beside : AreLeftOf (is_excused asked.excused) sections left

-- the text of what is left of sections
abbrev pub AreTexts : Asked → List Section → List Section → List ℕ → Type 0
AreTexts asked sections left text = AreSectionTexts asked.table asked.lines (firsts_in asked) asked.form [] sections left text

-- a section was shown and noted; or the output failed, and has some first bytes of its text; or
-- memory ran out, and nothing was written
abbrev pub ShowsSection : Asked → Section → Tally → Tally → Option (List ℕ) → Option (List ℕ) → Result (Unit {0}) RunFault → Type 0
ShowsSection asked s before after old new (Ok done) =
    (left : Section) × (text : List ℕ) × IsShown asked before.left s left text × IsTallyWith s left before after × Appends old new text
ShowsSection asked s before after old new (Err OutputFailed) =
    (left : Section) × (front rest : List ℕ) × IsShown asked before.left s left (front ++ rest) × Appends old new front
ShowsSection asked s before after old new (Err Memory) = Appends old new []
ShowsSection asked s before after old new (Err fault) = ⊥

-- the output failed, or memory ran out
abbrev pub IsEnd : RunFault → Type 0
IsEnd OutputFailed = Unit {0}
IsEnd Memory = Unit {0}
IsEnd fault = ⊥

-- what is kept of all sections of a list
pub record IsWhole (asked : Asked) (sections left : List Section) (tally : Tally) : Type 0 where
  pub are : AreSections asked.table asked.left_out asked.limit sections
  pub beside : AreLeftOf (is_excused asked.excused) sections left
  pub kept : IsTally sections left tally

-- all sections were found, and a text with them was written; or the output or memory ended that,
-- and some first bytes of a text with some first sections were written
abbrev pub Shows : (Asked → List Section → List Section → List ℕ → Type 0) → Asked → Option (List ℕ) → Option (List ℕ) → Result Tally RunFault → Type 0
Shows is asked old new (Ok tally) =
    (sections left : List Section) × (text : List ℕ) × IsWhole asked sections left tally × is asked sections left text × Appends old new text
Shows is asked old new (Err fault) =
    IsEnd fault × ((sections left : List Section) × (front rest : List ℕ) × AreFound asked sections left × is asked sections left (front ++ rest) × Appends old new front)

-- what is kept of sections, or the fault that ended that
abbrev pub kept_by : Tally → Result (Unit {0}) RunFault → Result Tally RunFault
kept_by tally (Ok done) = Ok tally
kept_by tally (Err fault) = Err fault

-- the text of a list up to its verdict
abbrev pub IsText : Asked → List Section → List Section → List ℕ → Type 0
IsText asked sections left text = IsListText asked.table asked.lines asked.left_out asked.form sections left text
