-- The cells of the steps, joined, are the translation.
use Rattle.std.proofs.Common.{ℕ, zero, suc, ◌+◌, ◌≡◌, Bool, true, false, List, [], ◌∷◌, ◌++◌, length, cond, nat_lt, refl, ap, flat_map}
use Rattle.brl_rules.specs.TableView.{TableView}
use Rattle.brl_rules.specs.Translation.{chosen_at, translation_from, translation}
use Rattle.brl_forward.specs.declared.steps.Traced.{Traced}
use Rattle.brl_forward.specs.Trace.{step_at, steps_from, trace_of}

either : (b : Bool) (x : Traced) (xs : List Traced) (ys : List ℕ) → flat_map (λ s. s.cells) xs ≡ ys → flat_map (λ s. s.cells) (cond b (x ∷ xs) []) ≡ cond b (x.cells ++ ys) []
either true x xs ys h = ap (λ zs. x.cells ++ zs) h
either false x xs ys h = refl

steps_from-cells : (t : TableView) (text : List ℕ) (n i : ℕ) → flat_map (λ s. s.cells) (steps_from t text n i) ≡ translation_from t text n i
steps_from-cells t text zero i = refl
steps_from-cells t text (suc n) i =
    either (nat_lt i (length text)) (step_at t text i) (steps_from t text n (i + (chosen_at t text i).taken)) (translation_from t text n (i + (chosen_at t text i).taken))
    (steps_from-cells t text n (i + (chosen_at t text i).taken))

pub trace-cells : (t : TableView) (text : List ℕ) → flat_map (λ s. s.cells) (trace_of t text) ≡ translation t text
unfolding trace_of translation
trace-cells t text = steps_from-cells t text (length text) 0
