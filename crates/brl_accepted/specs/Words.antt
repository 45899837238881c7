-- Internal. How the lines of a file of pairs of rules are read: what a rule says is three words.
use Rattle.std.specs.Prelude.{ℕ, ◌≡◌, ◌≢◌, All, List, [], ◌∷◌, ◌++◌, Option, flat_map, map, string_bytes}
use Rattle.std.specs.Borrow.{Bor}
use Rattle.std.specs.List.{AllByRecursion, enumerate_from, filter}
use Rattle.std.specs.Option.{MatchOption, option_copied, option_map_or}
use Rattle.std.specs.Global.{Vec}
use Rattle.std.specs.Str.{bytes_eq}
use Rattle.indexmap.specs.IndexMap.{IndexMap, get_by}
use Rattle.brl_accepted.specs.FaultText.{fault_view}
use Rattle.brl_accepted.specs.Pairs.{between, said}
use Rattle.brl_accepted.specs.Reading.{Named, Names, kept_by, named_by, stale_by}
use Rattle.brl_accepted.specs.declared.lines.Named.{Named as Line}
use Rattle.brl_accepted.specs.declared.lines.Reader.{Reader}
use Rattle.brl_accepted.specs.declared.reading.NamedLines.{NamedLines}
use Rattle.brl_report.specs.Rules.{rule_numbers}

-- bytes have no blank
abbrev pub IsWord : List ℕ → Type 0
IsWord bytes = AllByRecursion (λ b. b ≢ 32) bytes

-- a text is a word, a blank, and the rest
pub record BeginsWithWord (text rest : List ℕ) : Type 0 where
  pub word : List ℕ
  pub is_word : IsWord word
  pub is : text ≡ word ++ (32 ∷ rest)

-- a text is three words with a blank between two
pub record IsThreeWords (text : List ℕ) : Type 0 where
  pub one : List ℕ
  pub two : List ℕ
  pub three : List ℕ
  pub is : text ≡ one ++ (32 ∷ (two ++ (32 ∷ three)))
  pub one_is : IsWord one
  pub two_is : IsWord two
  pub three_is : IsWord three

-- a line is three words, the mark between two rules, and the rest
pub record ArePartsOf (line one rest : List ℕ) : Type 0 where
  pub is : line ≡ one ++ (between ++ rest)
  pub words : IsThreeWords one

-- how a line is parted so, if it is
abbrev pub Parts : List ℕ → Option (Bor (List ℕ) × Bor (List ℕ)) → Type 0
Parts line found = MatchOption found ((one rest : List ℕ) → ArePartsOf line one rest → ⊥) (λ parts. ArePartsOf line parts.0.now parts.1.now)

-- ---- Rules by what they say

-- the numbers that an index has for a text
abbrev pub numbers_of : {S : Type 0} → IndexMap (Bor (List ℕ)) (Vec ℕ) S → List ℕ → List ℕ
numbers_of index text = option_map_or (λ found. found.items) (get_by (λ key. bytes_eq text key.now) index) []

-- the rules with these numbers that say a text
abbrev pub numbers_saying : List (List ℕ) → List ℕ → List ℕ → List ℕ
numbers_saying words numbers text = filter (λ s. bytes_eq text (said words s)) numbers

-- an index has these rules by what they say
abbrev pub IsIndex : {S : Type 0} → List (List ℕ) → List ℕ → IndexMap (Bor (List ℕ)) (Vec ℕ) S → Type 0
IsIndex words numbers index = (text : List ℕ) → numbers_of index text ≡ numbers_saying words numbers text

-- ---- Lines

-- what a line names, as the code has it
abbrev pub named_view : Line → Named
named_view line = record { pairs = line.pairs.items; set = line.set.items; fault = line.fault }

-- what a reader's lines may name
abbrev pub names_read : Reader → Names
names_read reader = record { table = reader.known.table.now; words = map string_bytes reader.words.now; sets = map (λ set. set.items) reader.known.sets.now }

-- the list that they are compared with
abbrev pub list_of : Reader → Option (List (ℕ × ℕ))
list_of reader = option_copied reader.list

-- each rule says three words, and is looked up by these
pub record IsIndexed (reader : Reader) : Type 0 where
  pub words : All (λ number. IsThreeWords (said (map string_bytes reader.words.now) number)) (rule_numbers reader.known.table.now)
  pub index : IsIndex (map string_bytes reader.words.now) (rule_numbers reader.known.table.now) reader.index.now

-- what lines of the file at a path name, and which of them are stale
pub record AreFound (names : Names) (list : Option (List (ℕ × ℕ))) (path : List ℕ) (all : List (List ℕ)) (found : NamedLines) : Type 0 where
  pub pairs : found.pairs.items ≡ flat_map (λ line. (named_by names list line).pairs) all
  pub sets : map (λ set. set.items) found.sets.items ≡ map (λ line. (named_by names list line).set) all
  pub stale : map fault_view found.stale.items ≡ flat_map (λ row. stale_by (named_by names list row.1).fault path row) (enumerate_from 0 all)
  pub kept : string_bytes found.kept ≡ flat_map (λ line. kept_by (named_by names list line).fault line) all
