-- Internal. Where the characters with a fold are among those that may come next.
use Rattle.std.specs.Prelude.{ℕ, ◌+◌, ◌≡◌, ◌==◌, Bool, List, [], ◌∷◌, filter}
use Rattle.std.specs.List.Sorted.{IsNonDecreasingBy}
use Rattle.brl_dues.specs.declared.folds.Place.{Place}
use Rattle.brl_dues.specs.LetterView.{LetterView}

-- the places of these characters, numbered from this number on
abbrev pub places_from : ℕ → List LetterView → List Place
places_from number [] = []
places_from number (l ∷ letters) = record { fold = l.fold; number = number } ∷ places_from (number + 1) letters

-- whether the character there has this fold
abbrev pub has_fold : ℕ → Place → Bool
has_fold fold place = place.fold == fold

-- places of these characters in the order of their folds; of one fold, all that there are, in order
pub record AreByFold (places : List Place) (letters : List LetterView) : Type 0 where
  pub rise : IsNonDecreasingBy (λ (place : Place). place.fold) places
  pub each : (fold : ℕ) → filter (has_fold fold) places ≡ filter (has_fold fold) (places_from 0 letters)
