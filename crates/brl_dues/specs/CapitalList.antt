-- Internal. A table with its capitals, as contracts see it.
use Rattle.std.specs.Prelude.{ℕ, ◌≡◌, Bool, true, ◌&&◌, ◌==◌, List, [], ◌∷◌, map, if◌then◌else◌}
use Rattle.std.specs.List.{list_any}
use Rattle.brl_rules.specs.TableView.{TableView}
use Rattle.brl_rules.specs.Text.{fold_of, has_word_capitals}
use Rattle.brl_dues.specs.declared.cased.Capital.{Capital}
use Rattle.brl_dues.specs.declared.cased.Capitals.{Capitals}
use Rattle.brl_dues.specs.declared.cased.Capitals.TheVariants.{Kept, New}
use Rattle.brl_dues.specs.Capitals.{capitals, is_upper}

-- a character with its fold
abbrev pub capital_of : TableView → ℕ → Capital
capital_of t c = record { character = c; fold = fold_of t c }

-- whether a character is a capital whose fold is this one
abbrev pub stands_for : TableView → ℕ → ℕ → Bool
stands_for t c a = is_upper t c && (a == fold_of t c)

-- whether one of these capitals has this fold
abbrev pub is_fold_among : List Capital → ℕ → Bool
is_fold_among among a = list_any (λ capital. a == capital.fold) among

-- whether a capital has this fold
abbrev pub is_fold_of_capital : TableView → ℕ → Bool
is_fold_of_capital t a = is_fold_among (map (capital_of t) (capitals t)) a

-- a capital before each of these texts, where it has this fold
abbrev pub put_at : ℕ → List (List ℕ) → Capital → List (List ℕ)
put_at a texts capital = if a == capital.fold then map (λ text. capital.character ∷ text) texts else []

-- the capitals, from a list that is kept or from a new one
abbrev pub listed : Capitals → List Capital
listed (Kept capitals) = capitals.now
listed (New capitals) = capitals.items

-- whether the table has word capitals, and its capitals where they are kept
pub record AreCapitals (t : TableView) (word_capitals keeps : Bool) (kept : List Capital) : Type 0 where
  pub word : word_capitals ≡ has_word_capitals t
  pub found : keeps ≡ true → kept ≡ map (capital_of t) (capitals t)
