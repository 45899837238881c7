-- The characters of which texts are made. The project's own choice.
use Rattle.std.specs.Prelude.{◌≡◌, ℕ, Bool, List, Option, None, Some, find, map, not, string_bytes}
use Rattle.std.specs.List.{filter, list_any}
use Rattle.brl_rules.specs.TableView.{TableView}
use Rattle.brl_without.specs.Spans.{is_in, spelled_span}
use Rattle.brl_without.specs.Tables.{AreDefined, IsUndefined}
use Rattle.brl_without.specs.declared.alphabet.Alphabet.{Alphabet}
use Rattle.brl_without.specs.declared.alphabet.Alphabet.TheVariants as alphabets
use Rattle.brl_without.specs.declared.span.Span.{Span}
use Rattle.brl_without.specs.declared.undefined.Undefined.{Undefined}
use Rattle.brl_without.specs.declared.undefined.Undefined.TheVariants as undefined

-- the characters of which texts are made: all but these, or those of these spans
pub data AlphabetView : Type 0 where
  Without : List ℕ → AlphabetView
  Only : List Span → AlphabetView

-- an alphabet, as definitions see it
abbrev pub alphabet_view : Alphabet → AlphabetView
alphabet_view (alphabets.Without given) = Without given.items
alphabet_view (alphabets.Only spans) = Only spans.items

-- the characters of a table in the order of their first definitions
abbrev pub table_characters : TableView → List ℕ
table_characters t = map (λ entry. entry.0) t.characters

-- a character is in one of these spans
abbrev pub is_in_one : List Span → ℕ → Bool
is_in_one spans c = list_any (λ span. is_in span c) spans

-- the characters of a table that are in none of these spans
abbrev pub characters_outside : TableView → List Span → List ℕ
characters_outside t spans = filter (λ c. not (is_in_one spans c)) (table_characters t)

-- the characters of a table that an alphabet leaves out
abbrev pub left_out_by : TableView → AlphabetView → List ℕ
left_out_by t (Without given) = given
left_out_by t (Only spans) = characters_outside t spans

-- the first span that has none of these characters
abbrev pub empty_among : List ℕ → List Span → Option Span
empty_among characters spans = find (λ span. not (list_any (is_in span) characters)) spans

-- the first span in which a table defines no character
abbrev pub first_empty : TableView → List Span → Option Span
first_empty t spans = empty_among (table_characters t) spans

-- a table has the characters of an alphabet: it defines those that are left out, or one in each
-- span
abbrev pub HasAll : TableView → AlphabetView → Type 0
HasAll t (Without given) = AreDefined t given
HasAll t (Only spans) = first_empty t spans ≡ None

-- the fault names the first of the characters that are left out that a table doesn't define
abbrev pub IsUndefinedOf : TableView → List ℕ → Undefined → Type 0
IsUndefinedOf t given (undefined.LeftOut fault) = IsUndefined t given fault
IsUndefinedOf t given fault = ⊥

-- the fault names the first span in which a table defines no character, as it is spelled
abbrev pub IsEmptyOf : TableView → List Span → Undefined → Type 0
IsEmptyOf t spans (undefined.Only named) =
    (span : Span) × (first_empty t spans ≡ Some span) × (string_bytes named ≡ spelled_span span)
IsEmptyOf t spans fault = ⊥

-- the fault names the first of an alphabet's characters that a table doesn't have
abbrev pub IsLacking : TableView → AlphabetView → Undefined → Type 0
IsLacking t (Without given) fault = IsUndefinedOf t given fault
IsLacking t (Only spans) fault = IsEmptyOf t spans fault
