-- A table that has the characters of an alphabet.
use Rattle.std.proofs.Common.{◌≡◌, ◌∷◌, ◌||◌, if◌then◌else◌, ℕ, Bool, true, false, List, [], None, Some, Option, eq-eqb, filter, find, is_some, map, nat_eq, not, refl}
use Rattle.std.proofs.lemmas.Bool.{or_left, or_right}
use Rattle.std.specs.List.{list_any}
use Rattle.std.specs.Map.{lookup}
use Rattle.brl_rules.specs.TableView.{TableView}
use Rattle.brl_rules.specs.Text.{is_defined}
use Rattle.brl_rules.specs.declared.rule.Info.{Info}
use Rattle.brl_without.specs.Alphabet.{AlphabetView, HasAll, IsLacking, Only, Without, characters_outside, is_in_one, table_characters}
use Rattle.brl_without.specs.Tables.{AreDefined}
use Rattle.brl_without.specs.declared.span.Span.{Span}
use Rattle.brl_without.specs.declared.undefined.Undefined.{Undefined}
use Rattle.brl_without.specs.declared.undefined.Undefined.TheVariants as undefined

-- it lacks none of them
pub none_lacks : (t : TableView) (alphabet : AlphabetView) → HasAll t alphabet → (fault : Undefined) → IsLacking t alphabet fault → ⊥
none_lacks t (Without given) all (undefined.LeftOut fault) is = let none = is.1 in cc
none_lacks t (Without given) all (undefined.Only named) is = is
none_lacks t (Only spans) all (undefined.Only named) is = let none = is.1 in cc
none_lacks t (Only spans) all (undefined.LeftOut fault) is = is

-- a character of the list is one of the table's
has_name : (entries : List (ℕ × Info)) (c : ℕ) → list_any (nat_eq c) (map (λ entry. entry.0) entries) ≡ true → is_some (lookup (nat_eq c) entries) ≡ true
has_name [] c among = absurd cc
has_name (entry ∷ entries) c among = by (has_name entries c) (nat_eq c entry.0) among
  where
    by : (list_any (nat_eq c) (map (λ entry. entry.0) entries) ≡ true → is_some (lookup (nat_eq c) entries) ≡ true) → (b : Bool) → (b || list_any (nat_eq c) (map (λ entry. entry.0) entries)) ≡ true → is_some (if b then Some entry.1 else lookup (nat_eq c) entries) ≡ true
    by later true among = refl
    by later false among = later among

-- no character of a list is undefined, if each is defined
none_undefined : (t : TableView) (keep : ℕ → Bool) (characters : List ℕ) → ((c : ℕ) → list_any (nat_eq c) characters ≡ true → is_defined t c ≡ true) → AreDefined t (filter keep characters)
none_undefined t keep [] each = refl
none_undefined t keep (c ∷ characters) each = by (none_undefined t keep characters (λ d among. each d (or_right (nat_eq d c) _ among))) (keep c)
  where
    by : AreDefined t (filter keep characters) → (b : Bool) → AreDefined t (if b then c ∷ filter keep characters else filter keep characters)
    by others true = rw (each c (or_left _ _ (eq-eqb c c refl))) others
    by others false = others

-- a table defines its characters that are outside of some spans
pub outside_defined : (t : TableView) (spans : List Span) → AreDefined t (characters_outside t spans)
outside_defined t spans = none_undefined t (λ c. not (is_in_one spans c)) (table_characters t) (has_name t.characters)
