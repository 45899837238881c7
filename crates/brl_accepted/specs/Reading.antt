-- How a file of pairs of rules is read: each of its lines is a note, names pairs of rules or a set
-- of characters, or is stale. The project's own choice.
use Rattle.std.specs.Prelude.{ℕ, ◌≡◌, ◌<◌, ◌+◌, ◌||◌, ◌==◌, All, Bool, true, false, if◌then◌else◌, List, [], ◌∷◌, ◌++◌, Option, None, Some, codes, flat_map, is_some, length, map, nat_lt, not, take}
use Rattle.std.specs.List.{count_by, enumerate_from, filter, find, list_any}
use Rattle.std.specs.Option.{option_map_or}
use Rattle.std.specs.Str.{chars, encode_utf8_all}
use Rattle.std.specs.Str.Lines.{lines}
use Rattle.brl_accepted.specs.FaultText.{FaultView}
use Rattle.brl_accepted.specs.Pairs.{pairs_of_line, wording}
use Rattle.brl_accepted.specs.Sets.{are_in_one_set, is_exchange, named_set, pairs_of_sets, set_count}
use Rattle.brl_accepted.specs.declared.fault.ExcuseFaultKind.{ExcuseFaultKind}
use Rattle.brl_accepted.specs.declared.fault.ExcuseFaultKind.TheVariants.{NoSuchRules, NoSuchSet, NotListed}
use Rattle.brl_accepted.specs.declared.reading.Nameable.{Nameable}
use Rattle.brl_lines.specs.Rows.{without_mark}
use Rattle.brl_lines.specs.Tokens.{LineView, is_gap}
use Rattle.brl_lines.specs.Visible.{visible_line}
use Rattle.brl_lines.specs.Views.{line_view}
use Rattle.brl_pairs.specs.Divergence.{has_rules}
use Rattle.brl_pairs.specs.declared.excused.Excused.{Excused}
use Rattle.brl_report.specs.Rules.{rule_count, rule_numbers}
use Rattle.brl_rules.specs.TableView.{TableView}

-- what a file of pairs may name: the rules of a table, by what each says, and sets of characters
pub record Names : Type 0 where
  pub table : TableView
  pub words : List (List ℕ)
  pub sets : List (List ℕ)

-- what a file may name of a table of these lines, with these sets
abbrev pub names_in : TableView → List LineView → List (List ℕ) → Names
names_in t lines sets = record { table = t; words = wording t lines; sets = sets }

-- what a call gives of them
abbrev pub names_of : Nameable → Names
names_of known = names_in known.table.now (map line_view known.lines.now) (map (λ set. set.items) known.sets.now)

-- ---- A line

-- what a line names: pairs of rules, or characters of a set; or its fault, and neither
pub record Named : Type 0 where
  pub pairs : List (ℕ × ℕ)
  pub set : List ℕ
  pub fault : Option ExcuseFaultKind

-- it names nothing, and has no fault
abbrev pub nothing_named : Named
nothing_named = record { pairs = []; set = []; fault = None }

-- whether a line is a note: a comment, whose first mark but blanks and tabs is `#`, or a blank line
abbrev pub is_note : List ℕ → Bool
is_note line = option_map_or (λ mark. mark == 35) (find (λ mark. not (is_gap mark)) line) true

-- the fault of the line of a set with these characters, if it has one: they aren't two or more of
-- one of these sets
abbrev pub fault_of_set : List (List ℕ) → List ℕ → Option ExcuseFaultKind
fault_of_set sets set = if are_in_one_set sets set then None else Some NoSuchSet

-- whether a list is given, and has none of these pairs
abbrev pub are_unlisted : Option (List (ℕ × ℕ)) → List (ℕ × ℕ) → Bool
are_unlisted list pairs = option_map_or (λ listed. not (list_any (λ pair. has_rules listed pair.0 pair.1) pairs)) list false

-- The fault of another line that is no note, if it has one, where it is the line of these pairs of
-- rules: it is that of none; or a list is given, and has none of them.
abbrev pub fault_of_pairs : Option (List (ℕ × ℕ)) → List (ℕ × ℕ) → Option ExcuseFaultKind
fault_of_pairs list [] = Some NoSuchRules
fault_of_pairs list (pair ∷ pairs) = if are_unlisted list (pair ∷ pairs) then Some NotListed else None

-- what a line names, unless it has a fault
abbrev pub unless : Option ExcuseFaultKind → Named → Named
unless None named = named
unless (Some kind) named = record { pairs = []; set = []; fault = Some kind }

-- what the line of a set with these characters names
abbrev pub named_by_set : List (List ℕ) → List ℕ → Named
named_by_set sets set = unless (fault_of_set sets set) (record { pairs = []; set = set; fault = None })

-- what the line of these pairs of rules names
abbrev pub named_by_pairs : Option (List (ℕ × ℕ)) → List (ℕ × ℕ) → Named
named_by_pairs list pairs = unless (fault_of_pairs list pairs) (record { pairs = pairs; set = []; fault = None })

-- what a line names that is no note, in which what can't be seen is spelled
abbrev pub named_by_seen : Names → Option (List (ℕ × ℕ)) → List ℕ → Named
named_by_seen names list line =
    if is_exchange line then named_by_set names.sets (named_set line) else named_by_pairs list (pairs_of_line names.words (rule_numbers names.table) line)

-- what a line names
abbrev pub named_by : Names → Option (List (ℕ × ℕ)) → List ℕ → Named
named_by names list line = if is_note line then nothing_named else named_by_seen names list (visible_line line)

-- ---- A file

-- the lines of a file, but for a byte order mark at its beginning
abbrev pub rows : List ℕ → List (List ℕ)
rows text = lines (without_mark text)

-- what each line names
abbrev pub named : Names → Option (List (ℕ × ℕ)) → List ℕ → List Named
named names list text = map (named_by names list) (rows text)

-- the sets that the lines name
abbrev pub named_sets : Names → Option (List (ℕ × ℕ)) → List ℕ → List (List ℕ)
named_sets names list text = map (λ (line : Named). line.set) (named names list text)

-- What a file excuses: the pairs of rules that its lines name are accepted, and the steps of own
-- definitions of the characters of a set that they name may be exchanged.
abbrev pub excused_by : Names → Option (List (ℕ × ℕ)) → List ℕ → Excused
excused_by names list text =
    record { accepted = flat_map (λ (line : Named). line.pairs) (named names list text); exchanged = pairs_of_sets names.table (named_sets names list text) }

-- how many sets of characters its lines name
abbrev pub sets_named : Names → Option (List (ℕ × ℕ)) → List ℕ → ℕ
sets_named names list text = set_count names.sets (named_sets names list text)

-- a line that has no fault, with its end
abbrev pub kept_by : Option ExcuseFaultKind → List ℕ → List ℕ
kept_by None line = line ++ codes "\n"
kept_by (Some kind) line = []

-- the text of a file without its stale lines
abbrev pub pruned : Names → Option (List (ℕ × ℕ)) → List ℕ → List ℕ
pruned names list text = flat_map (λ line. kept_by (named_by names list line).fault line) (rows text)

-- ---- Stale lines

-- how many characters a fault repeats
abbrev pub most_repeated : ℕ
most_repeated = 200

-- a character of a line that a fault repeats: a tab is spelled too
abbrev pub repeated_character : ℕ → List ℕ
repeated_character c = if c == 9 then codes "\\t" else c ∷ []

-- what a fault repeats of a line: what can't be seen is spelled, and after its first characters it
-- is cut
abbrev pub repeated : List ℕ → List ℕ
repeated line =
    let seen = chars (visible_line line) in
    encode_utf8_all (flat_map repeated_character (take most_repeated seen)) ++ (if nat_lt most_repeated (length seen) then codes ".." else [])

-- the line at a place, from 0, of the file at a path, among the stale lines, where it has this
-- fault, if any
abbrev pub stale_by : Option ExcuseFaultKind → List ℕ → ℕ × List ℕ → List FaultView
stale_by None path row = []
stale_by (Some kind) path row = record { kind = kind; subject = repeated row.1; file = path; line = row.0 + 1 } ∷ []

-- the stale lines of the file at this path with this text: those with a fault, in order
abbrev pub stale_lines : Names → Option (List (ℕ × ℕ)) → List ℕ → List ℕ → List FaultView
stale_lines names list path text = flat_map (λ row. stale_by (named_by names list row.1).fault path row) (enumerate_from 0 (rows text))

-- how many these are
abbrev pub stale_count : Names → Option (List (ℕ × ℕ)) → List ℕ → ℕ
stale_count names list text = count_by (λ (line : Named). is_some line.fault) (named names list text)

-- ---- Listed pairs

-- whether a pair of rules is excused, wherever texts diverge at it
abbrev pub is_excused : Excused → ℕ × ℕ → Bool
is_excused excused pair = has_rules excused.accepted pair.0 pair.1 || has_rules excused.exchanged pair.0 pair.1

-- the listed pairs that are excused
abbrev pub excused_of : Excused → List (ℕ × ℕ) → List (ℕ × ℕ)
excused_of excused listed = filter (is_excused excused) listed

-- how many of them are accepted by lines of their own
abbrev pub accepted_count : Excused → List (ℕ × ℕ) → ℕ
accepted_count excused listed = count_by (λ pair. has_rules excused.accepted pair.0 pair.1) listed

-- a list, where it is whole: then a line that names none of its pairs is stale
abbrev pub if_whole : Bool → List (ℕ × ℕ) → Option (List (ℕ × ℕ))
if_whole whole listed = if whole then Some listed else None

-- a pair is of two rules of a table
abbrev pub AreOfTable : TableView → ℕ × ℕ → Type 0
AreOfTable t pair = (pair.0 < rule_count t) × (pair.1 < rule_count t)

-- the listed pairs are read back from a file: it has no stale line, and excuses each of them
pub record IsReadBack (names : Names) (listed : List (ℕ × ℕ)) (whole : Bool) (text : List ℕ) : Type 0 where
  pub none_stale : stale_count names (if_whole whole listed) text ≡ 0
  pub all : excused_of (excused_by names (if_whole whole listed) text) listed ≡ listed
