-- The text of a list of clashes: the sets of characters, its sections, and a verdict. The project's
-- own choice.
use Rattle.std.specs.Prelude.{ℕ, ◌≡◌, ◌-◌, ◌==◌, Bool, true, false, if◌then◌else◌, List, [], ◌∷◌, ◌++◌, Option, codes, flat_map, length, nat_lt, option_map, slice_get}
use Rattle.std.specs.Fmt.{decimal}
use Rattle.std.specs.Option.{option_map_or}
use Rattle.brl_answers.specs.Answers.{counts_line, spelled_one_by_one, with_alphabet_line}
use Rattle.brl_cells.specs.Dots.{spelling}
use Rattle.brl_without.specs.Alphabet.{AlphabetView}
use Rattle.brl_clashes.specs.Columns.{column_names}
use Rattle.brl_clashes.specs.Accepted.{accepted_count, accepted_lines, are_taken, is_less, outcome_beside}
use Rattle.brl_clashes.specs.SectionText.{IsSectionText, others_note, pairs_words}
use Rattle.brl_clashes.specs.Sections.{listed_after, listed_pairs, outcome_of}
use Rattle.brl_clashes.specs.Sets.{FirstsView, firsts_of, openers, plain, set_among}
use Rattle.brl_clashes.specs.declared.accepted.Taken.{Taken}
use Rattle.brl_clashes.specs.declared.list_form.ListForm.{ListForm}
use Rattle.brl_clashes.specs.declared.list_form.ListForm.TheVariants.{Screen, Pairs, Columns}
use Rattle.brl_clashes.specs.declared.section.Section.{Section}
use Rattle.brl_clashes.specs.declared.verdict.ListOutcome.{ListOutcome}
use Rattle.brl_clashes.specs.declared.verdict.ListOutcome.TheVariants.{Unambiguous, Clashing, Unfinished}
use Rattle.brl_lines.specs.Tokens.{LineView}
use Rattle.brl_rules.specs.TableView.{TableView, info_of}
use Rattle.brl_search.specs.declared.table_clashes.ClashList.{ClashList}
use Rattle.brl_search.specs.declared.table_clashes.ClashList.TheVariants.{Complete, Partial}

-- ---- Sets of characters

-- the cells of a character in dots
abbrev pub dots_of : TableView → ℕ → List ℕ
dots_of t c = option_map_or (λ info. spelling info.cells) (info_of t c) []

-- the line of the set of a character among these: the cells, and the characters as they are spelled
abbrev pub set_line : TableView → List ℕ → ℕ → List ℕ
set_line t characters c = codes "  " ++ dots_of t c ++ codes " " ++ spelled_one_by_one (set_among t characters c) ++ codes "\n"

-- the line before the lines of several sets
abbrev pub many_sets : ℕ → List ℕ
many_sets count =
    decimal count
    ++ codes " sets of characters have the same cells, classes and flags, and are in no rule; below, the first of each represents its set:\n"

-- the line before the lines of this many sets; empty where there are none
abbrev pub sets_heading : ℕ → List ℕ
sets_heading count =
    if count == 0 then []
    else if count == 1
    then codes "1 set of characters has the same cells, classes and flags, and is in no rule; below, its first represents it:\n"
    else many_sets count

-- the lines of all sets, after how many there are
abbrev pub sets_text : TableView → List ℕ → List ℕ
sets_text t characters = sets_heading (length (openers t characters)) ++ flat_map (set_line t characters) (openers t characters)

-- the most sets that have lines where pairs are shown by their kinds
abbrev pub most_sets : ℕ
most_sets = 3

-- the line of more sets
abbrev pub hidden_sets : ℕ → List ℕ
hidden_sets count = decimal count ++ codes " sets of characters have the same cells, classes and flags, in no rule; --first 0 lists them\n"

-- the lines of sets in a form
abbrev pub sets_in : ListForm → TableView → List ℕ → List ℕ
sets_in Screen t characters =
    if nat_lt most_sets (length (openers t characters)) then hidden_sets (length (openers t characters)) else sets_text t characters
sets_in (Pairs first key) t characters = sets_text t characters
sets_in (Columns key) t characters = []

-- ---- The verdict

-- on how many states and pairs a list rests
abbrev pub counts_of : ClashList → ℕ × ℕ
counts_of (Complete list body) = (length body.states, length body.pairs)
counts_of (Partial list states pairs) = (states, pairs)

-- on how many the last of these sections rests
abbrev pub last_counts : List Section → Option (ℕ × ℕ)
last_counts sections = option_map (λ s. counts_of s.found) (slice_get sections (length sections - 1))

-- these numbers after a word, where there are some
abbrev pub counts_after : List ℕ → Option (ℕ × ℕ) → List ℕ
counts_after word counts = option_map_or (λ own. counts_line word own.0 own.1) counts []

-- how many pairs of rules there are, and whether there may be others
abbrev pub pairs_line : Bool → ℕ → Bool → List ℕ
pairs_line taken count whole = decimal count ++ (pairs_words count ++ (others_note taken whole ++ codes "\n"))

-- the counts that are reported: of a table that is unambiguous, and those at which a limit was
-- passed
abbrev pub verdict_counts : ListOutcome → Option (ℕ × ℕ) → List ℕ
verdict_counts Unambiguous counts = counts_after (codes "unambiguous") counts
verdict_counts Clashing counts = []
verdict_counts Unfinished counts = counts_after (codes "limit") counts

-- how many pairs of rules diverge, where some are listed
abbrev pub verdict_pairs : Bool → ListOutcome → ℕ → List ℕ
verdict_pairs taken Unambiguous count = []
verdict_pairs taken Clashing count = pairs_line taken count true
verdict_pairs taken Unfinished count = pairs_line taken count false

-- the last lines for this outcome and these counts: the table is unambiguous, or this many pairs of
-- rules diverge
abbrev pub outcome_text : Bool → ListOutcome → Option (ℕ × ℕ) → ℕ → List ℕ
outcome_text taken outcome counts number = verdict_counts outcome counts ++ verdict_pairs taken outcome number

-- the verdict lines for an outcome; where a file was read, the list leaves out the pairs that it
-- accepts, and the lines say how many
abbrev pub verdict_by : Option Taken → ListOutcome → Option (ℕ × ℕ) → ℕ → List ℕ
verdict_by accepted outcome counts number =
    outcome_text (are_taken accepted) (outcome_beside (accepted_count accepted) outcome) counts number ++ accepted_lines accepted

-- the verdict lines of a list with these sections
abbrev pub verdict_text : Option Taken → List Section → List ℕ
verdict_text accepted sections = verdict_by accepted (outcome_of sections) (last_counts sections) (length (listed_pairs sections))

-- ---- The whole text

-- the texts of what is left of sections, one after another, after sections with these pairs of
-- rules
abbrev pub AreSectionTexts : TableView → List LineView → FirstsView → ListForm → List (ℕ × ℕ) → List Section → List Section → List ℕ → Type 0
AreSectionTexts t lines firsts form before [] [] text = text ≡ []
AreSectionTexts t lines firsts form before (s ∷ sections) (x ∷ left) text =
    (front rest : List ℕ) × IsSectionText t lines firsts form (is_less s x) before x front
    × AreSectionTexts t lines firsts form (listed_after before x) sections left rest × (text ≡ front ++ rest)
AreSectionTexts t lines firsts form before sections left text = ⊥

-- what comes before a list is nothing; before columns it is their names, and where pairs are shown
-- by their kinds, the lines of likely slips, which are any text
abbrev pub IsTop : ListForm → List ℕ → Type 0
IsTop Screen top = Unit {0}
IsTop (Pairs first key) top = top ≡ []
IsTop (Columns key) top = top ≡ column_names

-- the last lines of a list in a form: the verdict, and the line that names the characters of texts;
-- columns have none
abbrev pub last_lines : ListForm → AlphabetView → List ℕ → List ℕ
last_lines (Columns key) alphabet verdict = []
last_lines form alphabet verdict = with_alphabet_line alphabet verdict

-- what comes before the sections in a form: the likely slips or the names of columns, and the sets
-- of characters
abbrev pub IsHead : TableView → List ℕ → ListForm → List ℕ → Type 0
IsHead t left_out form text = (top : List ℕ) × IsTop form top × (text ≡ top ++ sets_in form t (plain t left_out))

-- The text of a list of clashes up to its verdict: what comes before the sections, and what is left
-- of these beside what a file accepts.
abbrev pub IsListText : TableView → List LineView → List ℕ → ListForm → List Section → List Section → List ℕ → Type 0
IsListText t lines left_out form sections left text =
    (head parts : List ℕ) × IsHead t left_out form head
    × AreSectionTexts t lines (firsts_of t (plain t left_out)) form [] sections left parts × (text ≡ head ++ parts)
