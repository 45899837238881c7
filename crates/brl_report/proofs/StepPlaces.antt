-- Where each step of a text begins: after the characters of the steps before it.
use Rattle.std.proofs.Common.{ℕ, zero, suc, ◌+◌, ◌<◌, ◌≡◌, ◌∙◌, Bool, true, false, List, [], ◌∷◌, ◌++◌, ◌≤◌, Some, ap, arith, cond, drop, get_or, length, length-drop, nat_lt, refl, subst, sym, take, slice_get, ltb-true}
use Rattle.std.proofs.lemmas.Option.{slice_get-get_or}
use Rattle.brl_rules.specs.TableView.{TableView}
use Rattle.brl_rules.specs.Choice.{chosen}
use Rattle.brl_rules.specs.Text.{classes_before, context_after_all, context_at}
use Rattle.brl_rules.specs.Translation.{chosen_at}
use Rattle.brl_rules.specs.declared.class.Class.{Class}
use Rattle.brl_forward.specs.declared.steps.Traced.{Traced}
use Rattle.brl_forward.specs.Trace.{step_at, steps_from, trace_of}

-- how many characters these steps take
abbrev pub taken_by : List Traced → ℕ
taken_by [] = 0
taken_by (step ∷ steps) = step.length + taken_by steps

pub taken_by-more : (steps : List Traced) (step : Traced) → taken_by (steps ++ step ∷ []) ≡ taken_by steps + step.length
taken_by-more [] step = omega arith
taken_by-more (first ∷ steps) step = omega (arith, taken_by-more steps step)

module _ (t : TableView) (text : List ℕ) where
  -- a step is the one at this position of the text
  abbrev pub StandsAt : Traced → ℕ → Type 0
  StandsAt step i = (step ≡ step_at t text i) × (i < length text)

  same : (x y : Traced) → Some x ≡ Some y → y ≡ x
  same x y is = cc

  among : (b : Bool) (i k : ℕ) (rest : List Traced) (step : Traced) → (b ≡ true → i < length text)
      → ((j : ℕ) → slice_get rest j ≡ Some step → StandsAt step (i + (chosen_at t text i).taken + taken_by (take j rest)))
      → slice_get (cond b (step_at t text i ∷ rest) []) k ≡ Some step
      → StandsAt step (i + taken_by (take k (cond b (step_at t text i ∷ rest) [])))
  among true i zero rest step within more is =
      (same (step_at t text i) step is ∙ ap (step_at t text) (omega arith), omega (arith, within refl))
  among true i (suc k) rest step within more is =
      let at = more k is in
      (at.0 ∙ ap (step_at t text) (omega arith), omega (arith, at.1))
  among false i k rest step within more is = cc

  from : (n i k : ℕ) (step : Traced) → slice_get (steps_from t text n i) k ≡ Some step → StandsAt step (i + taken_by (take k (steps_from t text n i)))
  from zero i k step is = cc
  from (suc n) i k step is =
      among (nat_lt i (length text)) i k (steps_from t text n (i + (chosen_at t text i).taken)) step (ltb-true i (length text))
      (λ j there. from n (i + (chosen_at t text i).taken) j step there) is

  -- the step with a number begins after the characters of those before it
  pub step-place : (k : ℕ) (step : Traced) → slice_get (trace_of t text) k ≡ Some step → StandsAt step (taken_by (take k (trace_of t text)))
  unfolding trace_of
  step-place k step is =
      let at = from (length text) 0 k step is in
      (at.0 ∙ ap (step_at t text) (omega arith), omega (arith, at.1))

  -- the step after some first ones begins after their characters
  pub next-place : (steps first : List Traced) (step : Traced) → steps ≡ trace_of t text → first ≡ take (length first) steps → length first < length steps → step ≡ get_or steps (length first) step
      → StandsAt step (taken_by first)
  next-place steps first step are begin within is =
      let there : slice_get (trace_of t text) (length first) ≡ Some step =
      ap (λ (l : List Traced). slice_get l (length first)) (sym are) ∙ slice_get-get_or steps (length first) step within ∙ ap (λ (x : Traced). Some x) (sym is) in
      let so_far : taken_by (take (length first) (trace_of t text)) ≡ taken_by first = ap taken_by (ap (take (length first)) (sym are) ∙ sym begin) in
      subst (StandsAt step) so_far (step-place (length first) step there)

  -- the characters of a step, as many as the text has there
  pub context-after : (step : Traced) (i : ℕ) → StandsAt step i
      → ((j count : ℕ) → count ≤ length (drop j text) → context_after_all t (context_at t text j) (take count (drop j text)) ≡ context_at t text (j + count))
      → ((before : Class) (rest : List ℕ) → 0 < length rest → (chosen t before rest).taken ≤ length rest)
      → context_after_all t (context_at t text i) (take step.length (drop step.start text)) ≡ context_at t text (i + step.length)
  context-after step i at law room =
      let some : 0 < length (drop i text) = omega (arith, length-drop i text, at.1) in
      let few : step.length ≤ length (drop i text) = subst (λ (x : Traced). x.length ≤ length (drop i text)) (sym at.0) (room (classes_before t text i) (drop i text) some) in
      ap (λ (n : ℕ). context_after_all t (context_at t text i) (take step.length (drop n text))) (ap (λ (x : Traced). x.start) at.0) ∙ law i step.length few
