-- The sections of a list of clashes: what is found for the texts of some kinds of characters, and
-- of one kind more in each section. The project's own choice.
use Rattle.std.specs.Prelude.{ℕ, ◌≡◌, ◌+◌, ◌==◌, ◌⊎◌, All, Bool, true, false, if◌then◌else◌, IsTrue, List, [], ◌++◌, Some, length, not, slice_get}
use Rattle.std.specs.List.{filter, fold, list_all}
use Rattle.brl_clashes.specs.Kinds.{left_out_in, section_kinds}
use Rattle.brl_clashes.specs.ListedPairs.{has_pair}
use Rattle.brl_clashes.specs.declared.section.Section.{Section}
use Rattle.brl_clashes.specs.declared.verdict.ListOutcome.{ListOutcome}
use Rattle.brl_clashes.specs.declared.verdict.ListOutcome.TheVariants.{Unambiguous, Clashing, Unfinished}
use Rattle.brl_rules.specs.TableView.{TableView}
use Rattle.brl_rules.specs.Translation.{IsClash}
use Rattle.brl_search.specs.Clashes.{AreClashes, rules_of_clashes}
use Rattle.brl_search.specs.declared.table_clashes.ClashList.{ClashList}
use Rattle.brl_search.specs.declared.table_clashes.ClashList.TheVariants.{Complete, Partial}
use Rattle.brl_search.specs.declared.table_clashes.RuleClash.{RuleClash}
use Rattle.brl_without.specs.Tables.{IsUnambiguousWithout}

-- ---- What is listed

-- the clashes of a list
abbrev pub clashes_of : ClashList → List RuleClash
clashes_of (Complete list body) = list.items
clashes_of (Partial list states pairs) = list.items

-- whether a list has every pair of rules at which clashing texts diverge
abbrev pub is_whole : ClashList → Bool
is_whole (Complete list body) = true
is_whole (Partial list states pairs) = false

-- whether all of these sections have
abbrev pub are_whole : List Section → Bool
are_whole sections = list_all (λ s. is_whole s.found) sections

-- whether a list has no pair of rules
abbrev pub lists_none : ClashList → Bool
lists_none found = length (clashes_of found) == 0

-- whether none of these sections has a pair of rules
abbrev pub list_none : List Section → Bool
list_none sections = list_all (λ s. lists_none s.found) sections

-- the clashes that are at no pair of rules that passes a test
abbrev pub clashes_but : (ℕ × ℕ → Bool) → List RuleClash → List RuleClash
clashes_but passes clashes = filter (λ clash. not (passes (clash.lesser, clash.greater))) clashes

-- the clashes that are at none of some pairs of rules
abbrev pub clashes_beside : List (ℕ × ℕ) → List RuleClash → List RuleClash
clashes_beside pairs clashes = clashes_but (has_pair pairs) clashes

-- the clashes of a section at pairs of rules that aren't among those of the sections before it
abbrev pub new_in : List (ℕ × ℕ) → Section → List RuleClash
new_in before s = clashes_beside before (clashes_of s.found)

-- the pairs of rules of the sections so far, each once
abbrev pub listed_after : List (ℕ × ℕ) → Section → List (ℕ × ℕ)
listed_after before s = before ++ rules_of_clashes (new_in before s)

-- the pairs of rules of all of these sections, each once
abbrev pub listed_pairs : List Section → List (ℕ × ℕ)
listed_pairs sections = fold listed_after [] sections

-- the outcome of sections, which may be whole and list no pair of rules: there is no pair; or
-- these, and no others; or maybe others
abbrev pub outcome_by : Bool → Bool → ListOutcome
outcome_by whole none = if whole then (if none then Unambiguous else Clashing) else Unfinished

-- the outcome of these sections
abbrev pub outcome_of : List Section → ListOutcome
outcome_of sections = outcome_by (are_whole sections) (list_none sections)

-- the texts of each of these clashes clash by a table
abbrev pub AreClashesOf : TableView → List RuleClash → Type 0
AreClashesOf t clashes = All (λ x. IsClash t x.clash.left x.clash.right x.clash.cells) clashes

-- ---- The sections of a table

-- what is found with a limit for the texts that use none of some characters: their list; or, where
-- no two of them clash, a whole list of nothing
abbrev pub AreListed : List ℕ → TableView → ℕ → ClashList → Type 0
AreListed left_out t limit found =
    AreClashes left_out t limit found ⊎ (IsUnambiguousWithout left_out t × (is_whole found ≡ true) × (clashes_of found ≡ []))

-- the section with this number, from 0: its kind, and what is found for the texts that use neither
-- what is left out nor a character of a later section; the last one is the list of all texts
pub record IsSection (t : TableView) (left_out : List ℕ) (limit place : ℕ) (s : Section) : Type 0 where
  pub kind : slice_get (section_kinds t left_out) place ≡ Some s.kind
  pub clashes : AreListed (left_out_in t left_out place) t limit s.found
  pub all : place + 1 ≡ length (section_kinds t left_out) → AreClashes left_out t limit s.found

-- these are the first sections of a table
abbrev pub AreFirst : TableView → List ℕ → ℕ → List Section → Type 0
AreFirst t left_out limit sections = (place : ℕ) (s : Section) → slice_get sections place ≡ Some s → IsSection t left_out limit place s

-- these are the sections of a table; where all are whole, none is missing
pub record AreSections (t : TableView) (left_out : List ℕ) (limit : ℕ) (sections : List Section) : Type 0 where
  pub first : AreFirst t left_out limit sections
  pub all : IsTrue (are_whole sections) → length sections ≡ length (section_kinds t left_out)
