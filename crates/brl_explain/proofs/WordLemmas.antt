-- A word is looked for from word to word, and what comes before a mark.
use Rattle.std.proofs.Common.{◌≡◌, ◌∙◌, ◌<◌, ℕ, Bor, Bool, List, None, Option, Some, ap, arith, length, map, nat_eq, sym, take, MatchOption}
use Rattle.std.specs.List.{before_first, find}
use Rattle.std.proofs.lemmas.List.{take_all}
use Rattle.std.proofs.lemmas.Str.Pattern.{IsSplitOnceResult, split_once_first}

module _ (is_so : List ℕ → Bool) (words : List (Bor (List ℕ))) where
  -- the first of these words that is so
  abbrev pub first_of : List (Bor (List ℕ)) → Option (List ℕ)
  first_of ws = find is_so (map (λ (w : Bor (List ℕ)). w.now) ws)

-- what comes before the first of these marks in a line; all of it where it has none
pub before_mark : (mark : ℕ) → mark < 128 → (line : List ℕ) (r : Option (Bor (List ℕ) × Bor (List ℕ))) → IsSplitOnceResult mark line r
    → MatchOption r (line ≡ before_first (λ byte. nat_eq byte mark) line) (λ x. x.0.now ≡ before_first (λ byte. nat_eq byte mark) line)
before_mark mark small line None h = sym (ap (λ n. take n line) (split_once_first mark line None h small) ∙ take_all (length line) line (omega arith))
before_mark mark small line (Some x) h = (split_once_first mark line (Some x) h small).1
