-- The pair that follows when the run behind takes an edge, and whether it is listed.
use Rattle.std.proofs.Common.{◌≡◌, ◌≢◌, ℕ, Bool, true, false, not, List, [], ◌∷◌, ◌++◌, inl, inr, length, IsTrue, ◌↔◌, refl, sym, ◌∙◌, ap, subst, arith, length-append, true≢false}
use Rattle.std.proofs.lemmas.List.{append_cancel_left}
use Rattle.brl_pairs.specs.Body.{NumberPair}
use Rattle.brl_pairs.specs.NumberPairs.{IsMissing, IsThere}
use Rattle.brl_pairs.specs.declared.edge.Edge.{Edge}

pub none_left : (lead rest after : List ℕ) → lead ≡ (lead ++ after) ++ rest → after ≡ []
none_left lead rest [] e = refl
none_left lead rest (c ∷ after) e = absurd (omega (arith, ap length e, length-append (lead ++ c ∷ after) rest, length-append lead (c ∷ after)))

refuted : (t : Bool) → IsTrue (not t) → IsTrue t → ⊥
refuted true h k = true≢false (sym h)
refuted false h k = true≢false (sym k)

missed : (t : Bool) → (IsTrue t → ⊥) → IsTrue (not t)
missed true h = absurd (h refl)
missed false h = refl

module _ (pairs : List NumberPair) (ahead : ℕ) (lead : List ℕ) (e : Edge) where
  -- the run behind stays behind by this rest
  pub missing_still : (rest : List ℕ) → lead ≡ e.cells ++ rest → (there : Bool) → IsTrue there ↔ IsThere pairs ahead e.next rest → IsTrue (not there) ↔ IsMissing pairs ahead lead e
  missing_still rest longer there tells = (
    (λ no. inl (record { rest = rest; longer = longer; missing = λ h. refuted there no (tells.1 h) })),
    λ gap. elim gap [
      | inl still ↦ missed there (λ yes. still.missing (subst (IsThere pairs ahead e.next) (append_cancel_left e.cells rest still.rest (sym longer ∙ still.longer)) (tells.0 yes)))
      | inr swapped ↦ absurd (swapped.some (none_left lead rest swapped.rest (longer ∙ ap (λ (z : List ℕ). z ++ rest) swapped.shorter)))
    ],
  )

  -- the run behind gets ahead by this rest
  pub missing_swapped : (rest : List ℕ) → rest ≢ [] → e.cells ≡ lead ++ rest → (there : Bool) → IsTrue there ↔ IsThere pairs e.next ahead rest → IsTrue (not there) ↔ IsMissing pairs ahead lead e
  missing_swapped rest some shorter there tells = (
    (λ no. inr (record { rest = rest; some = some; shorter = shorter; missing = λ h. refuted there no (tells.1 h) })),
    λ gap. elim gap [
      | inl still ↦ absurd (some (none_left lead still.rest rest (still.longer ∙ ap (λ (z : List ℕ). z ++ still.rest) shorter)))
      | inr swapped ↦ missed there (λ yes. swapped.missing (subst (IsThere pairs e.next ahead) (append_cancel_left lead rest swapped.rest (sym shorter ∙ swapped.shorter)) (tells.0 yes)))
    ],
  )

  -- the two runs give different cells
  pub missing_apart : ((rest : List ℕ) → lead ≢ e.cells ++ rest) → ((rest : List ℕ) → e.cells ≢ lead ++ rest) → IsTrue false ↔ IsMissing pairs ahead lead e
  missing_apart longer shorter = (
    (λ yes. absurd (true≢false (sym yes))),
    λ gap. elim gap [ inl still ↦ absurd (longer still.rest still.longer) | inr swapped ↦ absurd (shorter swapped.rest swapped.shorter) ],
  )
