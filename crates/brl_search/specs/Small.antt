-- Small clashes: no character can be left out of them, unless they are long. The project's own
-- choice.
use Rattle.std.specs.Prelude.{◌≡◌, ◌<◌, ◌≤◌, ◌⊎◌, ℕ, IfSome, List, [], ◌∷◌, Option, None, length}
use Rattle.std.specs.List.{remove}
use Rattle.brl_forward.specs.ClashView.{ClashView}
use Rattle.brl_rules.specs.TableView.{TableView}
use Rattle.brl_rules.specs.Translation.{IsClash, translation}
use Rattle.brl_traces.specs.Traces.{TracesDivergeAt}

-- two texts clash, and where a pair of rules is given, their traces diverge at it
pub record ClashAt (t : TableView) (rules : Option (ℕ × ℕ)) (left right : List ℕ) : Type 0 where
  pub clash : IsClash t left right (translation t left)
  pub diverge : IfSome rules (λ pair. TracesDivergeAt t (pair ∷ []) left right)

-- No one character of either text, nor one of each, can be left out so that the texts clash, at the
-- pair of rules where one is given.
pub record IsMinimal (t : TableView) (rules : Option (ℕ × ℕ)) (left right : List ℕ) : Type 0 where
  pub of_left : (i : ℕ) → i < length left → ClashAt t rules (remove left i) right → ⊥
  pub of_right : (j : ℕ) → j < length right → ClashAt t rules left (remove right j) → ⊥
  pub of_both : (i j : ℕ) → i < length left → j < length right → ClashAt t rules (remove left i) (remove right j) → ⊥

-- how many characters a text has at most that isn't long
abbrev pub most_characters : ℕ
most_characters = 256

-- no character can be left out so, where neither text has more than 256
abbrev pub IsSmall : TableView → Option (ℕ × ℕ) → List ℕ → List ℕ → Type 0
IsSmall t rules left right = length left ≤ most_characters → length right ≤ most_characters → IsMinimal t rules left right

-- no character can be left out of the two texts of a clash so that they clash, where neither has
-- more than 256
abbrev pub IsSmallClash : TableView → ClashView → Type 0
IsSmallClash t clash = IsSmall t None clash.left clash.right

-- the first text is the second one, from which some characters are left out
abbrev pub IsPartOf : List ℕ → List ℕ → Type 0
IsPartOf [] given = Unit {0}
IsPartOf (c ∷ text) [] = ⊥
IsPartOf (c ∷ text) (d ∷ given) = ((c ≡ d) × IsPartOf text given) ⊎ IsPartOf (c ∷ text) given
