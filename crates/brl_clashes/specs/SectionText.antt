-- The text of a section. The project's own choice.
use Rattle.std.specs.Prelude.{ℕ, ◌≡◌, ◌-◌, ◌==◌, Bool, true, false, if◌then◌else◌, List, [], ◌++◌, Some, None, bytes_eq, codes, flat_map, length, nat_lt, not, take}
use Rattle.std.specs.Fmt.{decimal}
use Rattle.std.specs.List.{filter}
use Rattle.std.specs.List.Sorted.{IsPermutation, IsSorted}
use Rattle.brl_clashes.specs.Order.{suspicion_cmp}
use Rattle.brl_clashes.specs.Sections.{is_whole, listed_after, new_in}
use Rattle.brl_clashes.specs.Columns.{column_line, kind_name}
use Rattle.brl_clashes.specs.PairKinds.{key_of, kind_of}
use Rattle.brl_clashes.specs.Screen.{AreKindLines}
use Rattle.brl_clashes.specs.Sets.{FirstsView, is_represented}
use Rattle.brl_clashes.specs.declared.kind.Kind.{Kind}
use Rattle.brl_clashes.specs.declared.list_form.ListForm.{ListForm}
use Rattle.brl_clashes.specs.declared.list_form.ListForm.TheVariants.{Screen, Pairs, Columns}
use Rattle.brl_clashes.specs.declared.section.Section.{Section}
use Rattle.brl_lines.specs.Tokens.{LineView}
use Rattle.brl_report.specs.ClashLine.{clash_line}
use Rattle.brl_rules.specs.TableView.{TableView}
use Rattle.brl_search.specs.declared.table_clashes.RuleClash.{RuleClash}

-- the words after this number of pairs of rules
abbrev pub pairs_words : ℕ → List ℕ
pairs_words count = if count == 1 then codes " pair of rules diverges" else codes " pairs of rules diverge"

-- the note after these: no others diverge, or others may; where pairs are accepted, none but these
abbrev pub others_note : Bool → Bool → List ℕ
others_note taken whole =
    if not whole then codes ", and maybe others"
    else if taken then codes ", and no others but for the accepted ones"
    else codes ", and no others"

-- after sections that list pairs of rules, those of a later section are more
abbrev pub more_note : Bool → List ℕ
more_note more = if more then codes " more" else []

-- the first line of a section: its texts, and how many pairs of rules it lists that no earlier
-- section does
abbrev pub heading : Bool → Kind → ℕ → Bool → Bool → List ℕ
heading taken kind count more whole =
    kind_name kind ++ (codes ": " ++ (decimal count ++ (more_note more ++ (pairs_words count ++ (others_note taken whole ++ codes "\n")))))

-- a line with a number after two blanks and words after it; empty for 0
abbrev pub number_line : ℕ → List ℕ → List ℕ
number_line number words = if number == 0 then [] else codes "  " ++ decimal number ++ words ++ codes "\n"

-- the first of these clashes; 0 means all
abbrev pub first_ones : ℕ → List RuleClash → List RuleClash
first_ones first clashes = if first == 0 then clashes else take first clashes

-- the line of the clash at a pair of rules
abbrev pub rule_clash_line : TableView → List LineView → RuleClash → List ℕ
rule_clash_line t lines x = clash_line t lines x.clash x.lesser x.greater

-- ---- Which clashes have a line

-- the most clashes of a section that all have a line, where nothing else is asked for
abbrev pub most_lines : ℕ
most_lines = 12

-- whether a clash has a line, where pairs of rules are listed: no other line represents it; or it
-- is of the kind that is asked for; or all have one
abbrev pub is_shown : ListForm → TableView → FirstsView → List (ℕ × ℕ) → RuleClash → Bool
is_shown (Pairs first (Some key)) t firsts listed x = bytes_eq (key_of (kind_of t firsts listed x)) key.now
is_shown (Columns (Some key)) t firsts listed x = bytes_eq (key_of (kind_of t firsts listed x)) key.now
is_shown (Columns None) t firsts listed x = true
is_shown form t firsts listed x = not (is_represented t firsts.own listed x)

-- the clashes among these that have a line
abbrev pub shown_among : ListForm → TableView → FirstsView → List (ℕ × ℕ) → List RuleClash → List RuleClash
shown_among form t firsts listed new = filter (is_shown form t firsts listed) new

-- how many of the clashes that have a line are shown; 0 means all
abbrev pub first_of : ListForm → ℕ
first_of (Pairs first key) = first
first_of form = 0

-- what the clashes without a line are
abbrev pub others_words : ListForm → List ℕ
others_words (Pairs first (Some key)) = codes " of other kinds"
others_words form = codes " of other characters of the sets"

-- ---- The text

-- the lines of a section with these clashes in order: the first of them, how many more there are,
-- and how many others it has
abbrev pub clash_lines : TableView → List LineView → ListForm → ℕ → List RuleClash → List ℕ
clash_lines t lines form count shown =
    flat_map (rule_clash_line t lines) (first_ones (first_of form) shown) ++ number_line (length shown - length (first_ones (first_of form) shown)) (codes " more")
    ++ number_line (count - length shown) (others_words form)

-- the lines of these clashes in order, in a section with this many new clashes
abbrev pub shown_lines : TableView → List LineView → FirstsView → List (ℕ × ℕ) → ListForm → Kind → ℕ → List RuleClash → List ℕ
shown_lines t lines firsts listed (Columns key) kind count shown = flat_map (column_line t lines firsts listed kind) shown
shown_lines t lines firsts listed form kind count shown = clash_lines t lines form count shown

-- The lines of the new clashes of a section, where pairs of rules are listed, the most suspicious
-- first.
abbrev pub ArePairLines : TableView → List LineView → FirstsView → List (ℕ × ℕ) → ListForm → Kind → List RuleClash → List ℕ → Type 0
ArePairLines t lines firsts listed form kind new text =
    (shown : List RuleClash) × IsPermutation (shown_among form t firsts listed new) shown × IsSorted suspicion_cmp shown
    × (text ≡ shown_lines t lines firsts listed form kind (length new) shown)

-- whether these new clashes of a section are shown by their kinds: too many have a line
abbrev pub is_by_kinds : ListForm → TableView → FirstsView → List (ℕ × ℕ) → List RuleClash → Bool
is_by_kinds Screen t firsts listed new = nat_lt most_lines (length (shown_among Screen t firsts listed new))
is_by_kinds form t firsts listed new = false

-- the lines of a section after its heading, where pairs of rules are listed: of its new clashes, or
-- of their kinds
pub record IsBody (t : TableView) (lines : List LineView) (firsts : FirstsView) (listed : List (ℕ × ℕ)) (form : ListForm) (kind : Kind) (new : List RuleClash) (text : List ℕ) : Type 0 where
  pub pairs : is_by_kinds form t firsts listed new ≡ false → ArePairLines t lines firsts listed form kind new text
  pub kinds : is_by_kinds form t firsts listed new ≡ true → AreKindLines t firsts listed kind new text

-- the heading of a section in a form; columns have none
abbrev pub heading_in : ListForm → Bool → Kind → ℕ → Bool → Bool → List ℕ
heading_in (Columns key) taken kind count more whole = []
heading_in form taken kind count more whole = heading taken kind count more whole

-- The text of a section after sections with these pairs of rules, where accepted pairs were left
-- out or not, and these own definitions represent others.
abbrev pub IsSectionText : TableView → List LineView → FirstsView → ListForm → Bool → List (ℕ × ℕ) → Section → List ℕ → Type 0
IsSectionText t lines firsts form taken before s text = let new = new_in before s in
    (body : List ℕ) × IsBody t lines firsts (listed_after before s) form s.kind new body
    × (text ≡ heading_in form taken s.kind (length new) (nat_lt 0 (length before)) (is_whole s.found) ++ body)
