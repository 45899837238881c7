-- The pairs by the state of their run behind, where one more pair is put before the others.
use Rattle.std.proofs.Common.{◌≡◌, ℕ, ◌+◌, ◌≤◌, set, List, inl, inr, Option, Some, slice_get, sym, ◌∙◌, ap, subst, arith}
use Rattle.std.proofs.lemmas.Bool.{cases_eq}
use Rattle.brl_closure.specs.Least.{IsLeastFound}
use Rattle.brl_closure.specs.Pass.{IsBehindFrom}
use Rattle.brl_closure.proofs.LeastLaws.{same_least}
use Rattle.brl_pairs.specs.Body.{NumberPair}
use Rattle.brl_pairs.proofs.Lists.{same_place, set_cases}

module _ (pairs : List NumberPair) (k low : ℕ) (q : NumberPair) (at : slice_get pairs k ≡ Some q) (next_low : low ≡ k + 1) where
  -- this pair is the least one from here on, at its state
  here_first : (state : ℕ) → q.behind ≡ state → IsLeastFound (IsBehindFrom pairs state k) (Some k)
  here_first state is = record { has = (omega arith, record { pair = q; at = at; behind = is }); below_all = λ n h. h.0 }

  -- it changes nothing for another state
  other_state : (state : ℕ) → (state ≡ q.behind → ⊥) → (found : Option ℕ) → IsLeastFound (IsBehindFrom pairs state low) found → IsLeastFound (IsBehindFrom pairs state k) found
  other_state state other found h = same_least (IsBehindFrom pairs state low) (IsBehindFrom pairs state k) (λ n. (down n, up n)) found h
    where
      down : (n : ℕ) → IsBehindFrom pairs state low n → IsBehindFrom pairs state k n
      down n b = (omega (arith, b.0, next_low), b.1)

      up : (n : ℕ) → IsBehindFrom pairs state k n → IsBehindFrom pairs state low n
      up n b = elim (cases_eq n k) [
        | inl here ↦ absurd (other (sym b.1.behind ∙ ap (λ (z : NumberPair). z.behind) (same_place pairs k b.1.pair q (ap (slice_get pairs) (sym here) ∙ b.1.at) at)))
        | inr apart ↦ (omega (arith, b.0, next_low), b.1)
      ]

  -- the first pairs of the states, where this one is put before the others of its state
  pub first_step : (first : List (Option ℕ)) (behind : ℕ) → behind ≡ q.behind → ((state : ℕ) (found : Option ℕ) → slice_get first state ≡ Some found → IsLeastFound (IsBehindFrom pairs state low) found)
      → (state : ℕ) (found : Option ℕ) → slice_get (set first behind (Some k)) state ≡ Some found → IsLeastFound (IsBehindFrom pairs state k) found
  first_step first behind is each state found found_at = elim (set_cases first behind (Some k) state found found_at) [
    | inl here ↦ subst (IsLeastFound (IsBehindFrom pairs state k)) here.1 (here_first state (sym is ∙ sym here.0))
    | inr there ↦ other_state state (λ e. there.0 (e ∙ sym is)) found (each state found there.1)
  ]

  -- the next pairs of the pairs, where this one has those from the next number on
  pub next_step : (next : List (Option ℕ)) (value : Option ℕ) → IsLeastFound (IsBehindFrom pairs q.behind low) value
      → ((number : ℕ) (pair : NumberPair) (found : Option ℕ) → low ≤ number → slice_get pairs number ≡ Some pair → slice_get next number ≡ Some found → IsLeastFound (IsBehindFrom pairs pair.behind (number + 1)) found)
      → (number : ℕ) (pair : NumberPair) (found : Option ℕ) → k ≤ number → slice_get pairs number ≡ Some pair → slice_get (set next k value) number ≡ Some found → IsLeastFound (IsBehindFrom pairs pair.behind (number + 1)) found
  next_step next value least each number pair found above pair_at found_at = elim (set_cases next k value number found found_at) [
    | inr there ↦ each number pair found (omega (arith, above, there.0, next_low)) pair_at there.1
    | inl here ↦
        let same : q ≡ pair = same_place pairs k q pair at (ap (slice_get pairs) (sym here.0) ∙ pair_at) in
        let from : low ≡ number + 1 = next_low ∙ ap (λ (n : ℕ). n + 1) (sym here.0) in
        subst (λ (n : ℕ). IsLeastFound (IsBehindFrom pairs pair.behind n) found) from
        (subst (λ (z : NumberPair). IsLeastFound (IsBehindFrom pairs z.behind low) found) same
        (subst (IsLeastFound (IsBehindFrom pairs q.behind low)) here.1 least))
  ]
