-- Where the texts of a pair diverge: at the split by which the pair was found.
use Rattle.std.specs.Prelude.{ℕ, ◌≤◌, List, [], ◌∷◌, Some, slice_get, ◌≡◌}
use Rattle.brl_pairs.specs.Divergence.{DivergeAt, HaveRules}
use Rattle.brl_pairs.specs.Runs.{Behaviour}
use Rattle.brl_pairs.specs.declared.step.Step.{Step}
use Rattle.brl_closure.specs.Answers.{AreTwoPaths}
use Rattle.brl_closure.specs.Trail.{TakesStep}
use Rattle.brl_closure.specs.declared.search.trail.PairOrigin.{PairOrigin}
use Rattle.brl_closure.specs.declared.search.trail.PairOrigin.TheVariants.{Split, Still, Swapped}
use Rattle.brl_closure.specs.declared.search.trail.Trail.{Trail}

-- two different paths from the start to final states, which give the same cells, read these texts,
-- and diverge at the pair of these two rules
abbrev pub AreTwoPathsAt : {S : Type 0} → Behaviour S → ℕ → ℕ → List ℕ → List ℕ → Type 0
AreTwoPathsAt m r s left right = (two : AreTwoPaths m left right) × DivergeAt ((r, s) ∷ []) two.one two.two

-- ---- By the split of a pair

-- the steps of the state with this number at these two places have the pair of these two rules
abbrev pub AreRulesAt : {S : Type 0} → Behaviour S → List S → ℕ → ℕ → ℕ → ℕ → ℕ → Type 0
AreRulesAt {S} m states number longer shorter r s =
    (x y : Step S) → TakesStep m states number longer x → TakesStep m states number shorter y → HaveRules ((r, s) ∷ []) x y

-- the origin is a split into two steps of this pair of rules, or a pair from this number on
abbrev pub ComesOf : {S : Type 0} → Behaviour S → List S → ℕ → ℕ → ℕ → PairOrigin → Type 0
ComesOf m states r s from (Split number longer shorter) = AreRulesAt m states number longer shorter r s
ComesOf m states r s from (Still pair place) = from ≤ pair
ComesOf m states r s from (Swapped pair place) = from ≤ pair

-- each pair from this number on comes of splits into two steps of this pair of rules
abbrev pub ComeOf : {S : Type 0} → Behaviour S → ℕ → ℕ → ℕ → Trail S → Type 0
ComeOf m r s from t = (n : ℕ) (o : PairOrigin) → from ≤ n → slice_get t.pair_origins.items n ≡ Some o → ComesOf m t.states r s from o

-- two paths read these texts, and diverge with the steps at these two places of a state
pub record AreTextsOfSplit {S : Type 0} (m : Behaviour S) (states : List S) (number longer shorter : ℕ) (left right : List ℕ) : Type 0 where
  pub paths : AreTwoPaths m left right
  pub diverge : (r s : ℕ) → AreRulesAt m states number longer shorter r s → DivergeAt ((r, s) ∷ []) paths.one paths.two

-- Two paths read these texts. Where all pairs from some number on come of splits into steps of one
-- pair of rules, and the pair with this number is among them, the paths diverge at these rules.
pub record AreTextsOf {S : Type 0} (m : Behaviour S) (t : Trail S) (number : ℕ) (left right : List ℕ) : Type 0 where
  pub paths : AreTwoPaths m left right
  pub diverge : (r s from : ℕ) → ComeOf m r s from t → from ≤ number → DivergeAt ((r, s) ∷ []) paths.one paths.two
