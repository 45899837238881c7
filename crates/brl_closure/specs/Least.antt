-- The least number that has a property, and the least pair of numbers.
use Rattle.std.specs.Prelude.{ℕ, ◌≡◌, ◌<◌, ◌≤◌, nat_lt, ◌==◌, ◌&&◌, ◌||◌, Bool, ◌⊎◌, if◌then◌else◌, Option, Some, None, MatchOption}

-- the number has the property, and no lesser one has it
pub record IsLeast (Has : ℕ → Type 0) (least : ℕ) : Type 0 where
  pub has : Has least
  pub below_all : (number : ℕ) → Has number → least ≤ number

-- the option is the least number that has the property, or None where none has it
abbrev pub IsLeastFound : (ℕ → Type 0) → Option ℕ → Type 0
IsLeastFound Has found = MatchOption found ((number : ℕ) → Has number → ⊥) (IsLeast Has)

-- ---- Pairs of numbers, in lexicographic order

-- whether the first pair is less than the second
abbrev pub comes_before : ℕ × ℕ → ℕ × ℕ → Bool
comes_before p q = nat_lt p.0 q.0 || ((p.0 == q.0) && nat_lt p.1 q.1)

-- the lesser of two optional pairs; None is no candidate
abbrev pub lesser_of : Option (ℕ × ℕ) → Option (ℕ × ℕ) → Option (ℕ × ℕ)
lesser_of (Some p) (Some q) = if comes_before q p then Some q else Some p
lesser_of None other = other
lesser_of one None = one

-- the pair has the property, and no lesser pair has it
pub record IsLeastPair (Has : ℕ → ℕ → Type 0) (least : ℕ × ℕ) : Type 0 where
  pub has : Has least.0 least.1
  pub before_all : (first second : ℕ) → Has first second → (least.0 < first) ⊎ ((least.0 ≡ first) × (least.1 ≤ second))

-- the option is the least pair that has the property, or None where none has it
abbrev pub IsLeastPairFound : (ℕ → ℕ → Type 0) → Option (ℕ × ℕ) → Type 0
IsLeastPairFound Has found = MatchOption found ((first second : ℕ) → Has first second → ⊥) (IsLeastPair Has)
