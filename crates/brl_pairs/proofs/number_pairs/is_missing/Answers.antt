use Rattle.std.proofs.Common.{◌≡◌, ◌++◌, ◌↔◌, IsTrue, List, ℕ, sym, ◌∙◌, subst}
use Rattle.brl_pairs.proofs.Missing.{missing_apart, missing_still, missing_swapped}
use Rattle.brl_pairs.specs.NumberPairs.{IsThere}
use Rattle.brl_pairs.proofs.number_pairs.is_missing.Goals as goal

pub returns-in_ok-from_slice-in-Still : goal.returns-in_ok-from_slice-in-Still
returns-in_ok-from_slice-in-Still c =
    let a = c.args in
    missing_still a.pairs.now a.ahead a.lead.now a.edge.now c.in-Still.rest.now
    (subst (λ (z : List ℕ). a.lead.now ≡ z ++ c.in-Still.rest.now) c.as_slice.ensures c.in-Still.ensures)
    c.is_there.result
    (subst (λ (z : List ℕ). IsTrue c.is_there.result ↔ IsThere a.pairs.now a.ahead a.edge.now.next z) c.in_ok-from_slice-in-Still.ensures c.is_there.ensures)

pub returns-in_ok-from_slice-in-Swapped : goal.returns-in_ok-from_slice-in-Swapped
returns-in_ok-from_slice-in-Swapped c =
    let a = c.args in
    missing_swapped a.pairs.now a.ahead a.lead.now a.edge.now c.in-Swapped.rest.now c.in-Swapped.ensures.0
    (sym c.as_slice.ensures ∙ c.in-Swapped.ensures.1)
    c.is_there-in-Swapped.result
    (subst (λ (z : List ℕ). IsTrue c.is_there-in-Swapped.result ↔ IsThere a.pairs.now a.edge.now.next a.ahead z) c.in_ok-from_slice-in-Swapped.ensures c.is_there-in-Swapped.ensures)

pub returns-in-Apart : goal.returns-in-Apart
returns-in-Apart c =
    let a = c.args in
    missing_apart a.pairs.now a.ahead a.lead.now a.edge.now
    (subst (λ (z : List ℕ). (rest : List ℕ) → a.lead.now ≡ z ++ rest → ⊥) c.as_slice.ensures c.in-Apart.ensures.0)
    (subst (λ (z : List ℕ). (rest : List ℕ) → z ≡ a.lead.now ++ rest → ⊥) c.as_slice.ensures c.in-Apart.ensures.1)
