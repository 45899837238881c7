-- The pairs of rules whose line is parted.
use Rattle.std.proofs.Common.{◌≡◌, ◌∙◌, ◌++◌, ℕ, All, Bool, true, false, cond, List, [], ◌∷◌, ap, map, refl, sym}
use Rattle.std.specs.List.{AllByRecursion, filter, flat_map}
use Rattle.std.specs.Str.{bytes_eq}
use Rattle.std.proofs.lemmas.List.Elements.{recursion_from_All}
use Rattle.std.proofs.lemmas.Slice.Eq.{bytes_eq-Decides}
use Rattle.brl_accepted.specs.Pairs.{between, pair_line, pairs_of_line, pairs_with, said}
use Rattle.brl_accepted.specs.Words.{ArePartsOf, IsThreeWords, numbers_saying}
use Rattle.brl_accepted.proofs.ListLemmas.{same_front, unequal}
use Rattle.brl_accepted.proofs.Parting.{same_parts}

agree : (p q : ℕ → Bool) → ((s : ℕ) → p s ≡ q s) → (numbers : List ℕ) → filter p numbers ≡ filter q numbers
agree p q same [] = refl
agree p q same (s ∷ numbers) = rw (same s, agree p q same numbers) refl

none_passes : (p : ℕ → Bool) → ((s : ℕ) → p s ≡ false) → (numbers : List ℕ) → filter p numbers ≡ []
none_passes p none [] = refl
none_passes p none (s ∷ numbers) = rw (none s) (none_passes p none numbers)

module _ (words : List (List ℕ)) (numbers : List ℕ) (line : List ℕ) where
  -- where no rule of a pair begins the line, it is the line of no pair
  none_with : (r : ℕ) → ((rest : List ℕ) → line ≡ said words r ++ (between ++ rest) → ⊥) → pairs_with words numbers line r ≡ []
  none_with r none = ap (map (λ s. (r, s))) (none_passes _ (λ s. unequal line (pair_line words (r, s)) (none (said words s))) numbers)

  -- a line that can't be parted
  no_pairs_from : (rs : List ℕ) → AllByRecursion (λ r. IsThreeWords (said words r)) rs → ((one rest : List ℕ) → ArePartsOf line one rest → ⊥) → flat_map (pairs_with words numbers line) rs ≡ []
  no_pairs_from [] three none = refl
  no_pairs_from (r ∷ rs) three none =
      λ i. none_with r (λ rest e. none (said words r) rest (record { is = e; words = three.0 })) i ++ no_pairs_from rs three.1 none i

  module _ (one rest : List ℕ) (parts : ArePartsOf line one rest) where
    -- the pairs of a rule and those that say the rest
    abbrev pairs_after : ℕ → List (ℕ × ℕ)
    pairs_after r = map (λ s. (r, s)) (numbers_saying words numbers rest)

    with_rule : (r : ℕ) → one ≡ said words r → pairs_with words numbers line r ≡ pairs_after r
    with_rule r is = ap (map (λ s. (r, s))) (agree _ _ each numbers)
      where
        each : (s : ℕ) → bytes_eq line (pair_line words (r, s)) ≡ bytes_eq rest (said words s)
        each s =
            ap (λ (l : List ℕ). bytes_eq l (pair_line words (r, s))) (parts.is ∙ ap (λ (w : List ℕ). w ++ (between ++ rest)) is)
            ∙ same_front (said words r) (between ++ rest) (between ++ said words s) ∙ same_front between rest (said words s)

    without_rule : (r : ℕ) → IsThreeWords (said words r) → bytes_eq one (said words r) ≡ false → pairs_with words numbers line r ≡ []
    without_rule r three other =
        none_with r (λ end e.
        let same : one ≡ said words r = (same_parts one (said words r) rest end parts.words three (sym parts.is ∙ e)).0 in
        let is : true ≡ false = sym ((bytes_eq-Decides one (said words r)).1 same) ∙ other in
        absurd cc)

    pairs_from : (rs : List ℕ) → AllByRecursion (λ r. IsThreeWords (said words r)) rs → flat_map (pairs_with words numbers line) rs ≡ flat_map pairs_after (numbers_saying words rs one)
    pairs_from [] three = refl
    pairs_from (r ∷ rs) three = cases (bytes_eq one (said words r)) refl (pairs_from rs three.1)
      where
        cases : (b : Bool) → bytes_eq one (said words r) ≡ b → flat_map (pairs_with words numbers line) rs ≡ flat_map pairs_after (numbers_saying words rs one)
            → pairs_with words numbers line r ++ flat_map (pairs_with words numbers line) rs ≡ flat_map pairs_after (cond b (r ∷ numbers_saying words rs one) (numbers_saying words rs one))
        cases true e others = λ i. with_rule r ((bytes_eq-Decides one (said words r)).0 e) i ++ others i
        cases false e others = λ i. without_rule r three.0 e i ++ others i

  module _ (three : All (λ r. IsThreeWords (said words r)) numbers) where
    pub no_pairs : ((one rest : List ℕ) → ArePartsOf line one rest → ⊥) → pairs_of_line words numbers line ≡ []
    no_pairs none = no_pairs_from numbers (recursion_from_All (λ r. IsThreeWords (said words r)) numbers three) none

    pub pairs_are : (one rest : List ℕ) → ArePartsOf line one rest → pairs_of_line words numbers line ≡ flat_map (λ r. map (λ s. (r, s)) (numbers_saying words numbers rest)) (numbers_saying words numbers one)
    pairs_are one rest parts = pairs_from one rest parts numbers (recursion_from_All (λ r. IsThreeWords (said words r)) numbers three)
