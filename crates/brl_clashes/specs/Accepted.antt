-- Sections without the clashes at accepted pairs of rules. The project's own choice.
use Rattle.std.specs.Prelude.{ℕ, ◌≡◌, ◌==◌, Bool, true, false, if◌then◌else◌, List, [], ◌∷◌, ◌++◌, Option, None, Some, codes, length, nat_lt}
use Rattle.std.specs.Fmt.{decimal}
use Rattle.brl_accepted.specs.Counting.{but_for_line}
use Rattle.brl_clashes.specs.Sections.{clashes_but, clashes_of}
use Rattle.brl_clashes.specs.declared.accepted.Taken.{Taken}
use Rattle.brl_clashes.specs.declared.section.Section.{Section}
use Rattle.brl_clashes.specs.declared.verdict.ListOutcome.{ListOutcome}
use Rattle.brl_clashes.specs.declared.verdict.ListOutcome.TheVariants.{Unambiguous, Clashing}
use Rattle.brl_search.specs.declared.table_clashes.ClashList.{ClashList}
use Rattle.brl_search.specs.declared.table_clashes.ClashList.TheVariants.{Complete, Partial}

-- ---- What is left

-- what is left of a list without the clashes at pairs that pass a test: those at the other pairs,
-- and what the list rests on
abbrev pub IsLeftOfList : (ℕ × ℕ → Bool) → ClashList → ClashList → Type 0
IsLeftOfList passes (Complete list body) (Complete left same) = (left.items ≡ clashes_but passes list.items) × (same ≡ body)
IsLeftOfList passes (Partial list states pairs) (Partial left as_many of_them) = (left.items ≡ clashes_but passes list.items) × (as_many ≡ states) × (of_them ≡ pairs)
IsLeftOfList passes found left = ⊥

-- what is left of a section
abbrev pub IsLeftOf : (ℕ × ℕ → Bool) → Section → Section → Type 0
IsLeftOf passes s left = (left.kind ≡ s.kind) × IsLeftOfList passes s.found left.found

-- what is left of each of these sections, in order
abbrev pub AreLeftOf : (ℕ × ℕ → Bool) → List Section → List Section → Type 0
AreLeftOf passes [] [] = Unit {0}
AreLeftOf passes (s ∷ sections) (x ∷ left) = IsLeftOf passes s x × AreLeftOf passes sections left
AreLeftOf passes sections left = ⊥

-- whether a clash of a section isn't left
abbrev pub is_less : Section → Section → Bool
is_less s left = nat_lt (length (clashes_of left.found)) (length (clashes_of s.found))

-- ---- What is reported

-- The outcome of sections from which this many accepted pairs were left out, where theirs is this:
-- where pairs are accepted, the table isn't unambiguous; as many pairs as are left diverge, which
-- may be none.
abbrev pub outcome_beside : ℕ → ListOutcome → ListOutcome
outcome_beside accepted Unambiguous = if accepted == 0 then Unambiguous else Clashing
outcome_beside accepted outcome = outcome

-- how many listed pairs are accepted, where pairs are read from a file
abbrev pub accepted_count : Option Taken → ℕ
accepted_count None = 0
accepted_count (Some taken) = taken.listed

-- whether pairs were left out of the sections
abbrev pub are_taken : Option Taken → Bool
are_taken accepted = nat_lt 0 (accepted_count accepted)

-- the words after this number of lines
abbrev pub lines_words : ℕ → List ℕ
lines_words count = if count == 1 then codes " line\n" else codes " lines\n"

-- the line that says how many lines are stale, and whether they were taken out of the file; none
-- where no line is stale and none was to be taken out
abbrev pub stale_line : Bool → ℕ → List ℕ
stale_line true count = codes "pruned: " ++ (decimal count ++ lines_words count)
stale_line false count = if count == 0 then [] else codes "stale: " ++ (decimal count ++ lines_words count)

-- the lines on a file of accepted pairs: how many of its lines are stale, and how much it excuses
abbrev pub accepted_lines : Option Taken → List ℕ
accepted_lines None = []
accepted_lines (Some taken) = stale_line taken.pruned taken.stale ++ but_for_line taken.counts
