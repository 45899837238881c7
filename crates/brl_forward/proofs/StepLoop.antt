-- The loop over the steps of a text.
use Rattle.std.proofs.Common.{ℕ, zero, suc, ◌+◌, ◌<◌, ◌≤◌, ◌≡◌, Bool, true, false, List, [], ◌∷◌, ◌++◌, length, drop, refl, arith, cond, nat_lt, sym, ◌∙◌, ap, append_assoc, length-drop, ltb-true}
use Rattle.std.proofs.lemmas.Bool.Decides.{nat_tests}
use Rattle.brl_rules.specs.TableView.{TableView}
use Rattle.brl_rules.specs.declared.class.Class.{Class}
use Rattle.brl_rules.specs.Text.{classes_before}
use Rattle.brl_rules.specs.Choice.{chosen}
use Rattle.brl_rules.specs.Translation.{chosen_at}
use Rattle.brl_forward.specs.declared.steps.Traced.{Traced}
use Rattle.brl_forward.specs.Trace.{step_at, steps_from, trace_of}

-- no steps after the end of the text
pub steps_from-end : (t : TableView) (text : List ℕ) (n i : ℕ) → length text ≤ i → steps_from t text n i ≡ []
steps_from-end t text zero i h = refl
steps_from-end t text (suc n) i h =
    let e : nat_lt i (length text) ≡ false = grind (arith, nat_tests) in
    rw e refl

-- the law that a chosen rule takes at least one character
abbrev pub TakesSome : Type 0
TakesSome = (t : TableView) (before : Class) (rest : List ℕ) → 0 < length rest → 1 ≤ (chosen t before rest).taken

taken-some : TakesSome → (t : TableView) (text : List ℕ) (i : ℕ) → i < length text → 0 < (chosen_at t text i).taken
taken-some takes t text i h =
    let k : 0 < length (drop i text) = omega (arith, length-drop i text) in
    omega (arith, takes t (classes_before t text i) (drop i text) k)

both : (b : Bool) (x : Traced) (xs ys : List Traced) → (b ≡ true → xs ≡ ys) → cond b (x ∷ xs) [] ≡ cond b (x ∷ ys) []
both true x xs ys h = ap (λ zs. x ∷ zs) (h refl)
both false x xs ys h = refl

-- any number of steps that is large enough gives the same steps
steps_from-enough : TakesSome → (t : TableView) (text : List ℕ) (n m i : ℕ) → length text ≤ n + i → length text ≤ m + i → steps_from t text n i ≡ steps_from t text m i
steps_from-enough takes t text zero m i h k = let within : length text ≤ i = omega (arith, h) in sym (steps_from-end t text m i within)
steps_from-enough takes t text (suc n) zero i h k = let within : length text ≤ i = omega (arith, k) in steps_from-end t text (suc n) i within
steps_from-enough takes t text (suc n) (suc m) i h k =
    both (nat_lt i (length text)) (step_at t text i) (steps_from t text n (i + (chosen_at t text i).taken)) (steps_from t text m (i + (chosen_at t text i).taken))
    (λ e.
    let some : 0 < (chosen_at t text i).taken = taken-some takes t text i (ltb-true i (length text) e) in
    steps_from-enough takes t text n m (i + (chosen_at t text i).taken) (omega (arith, h, some)) (omega (arith, k, some)))

first : TakesSome → (t : TableView) (text : List ℕ) (n i : ℕ) → i < length text → length text ≤ n → steps_from t text n i ≡ step_at t text i ∷ steps_from t text n (i + (chosen_at t text i).taken)
first takes t text zero i h k = absurd (omega (arith, h, k))
first takes t text (suc n) i h k =
    let e : nat_lt i (length text) ≡ true = grind (arith, nat_tests) in
    let some : 0 < (chosen_at t text i).taken = taken-some takes t text i h in
    rw e
    (ap (λ zs. step_at t text i ∷ zs)
    (steps_from-enough takes t text n (suc n) (i + (chosen_at t text i).taken) (omega (arith, h, k, some)) (omega (arith, h, k, some))))

-- the step with these fields
abbrev made : ℕ → ℕ → ℕ → ℕ → List ℕ → Traced
made s r n i c = record { start = s; rule = r; length = n; indicators = i; cells = c }

-- steps with the same fields
pub same_step : (x y : Traced) → x.start ≡ y.start → x.rule ≡ y.rule → x.length ≡ y.length → x.indicators ≡ y.indicators → x.cells ≡ y.cells → x ≡ y
same_step x y start rule length indicators cells =
    ap (λ s. made s x.rule x.length x.indicators x.cells) start ∙ ap (λ r. made y.start r x.length x.indicators x.cells) rule ∙ ap (λ n. made y.start y.rule n x.indicators x.cells) length
    ∙ ap (λ i. made y.start y.rule y.length i x.cells) indicators ∙ ap (λ c. made y.start y.rule y.length y.indicators c) cells

-- one iteration of the loop
pub step_more : TakesSome → (t : TableView) (text : List ℕ) (i j : ℕ) (done more total : List Traced) (x : Traced) → i < length text → x ≡ step_at t text i → j ≡ i + x.length → more ≡ done ++ x ∷ []
    → done ++ steps_from t text (length text) i ≡ total → more ++ steps_from t text (length text) j ≡ total
step_more takes t text i j done more total x h ex ej em inv =
    let law = first takes t text (length text) i h (omega arith) in
    let k : j ≡ i + (chosen_at t text i).taken = ej ∙ ap (λ y. i + y.length) ex in
    rw (em, k, ex) (append_assoc done (step_at t text i ∷ []) (steps_from t text (length text) (i + (chosen_at t text i).taken)) ∙ ap (λ zs. done ++ zs) (sym law) ∙ inv)

-- the start of the loop
pub steps_start : (t : TableView) (text : List ℕ) → steps_from t text (length text) 0 ≡ trace_of t text
unfolding trace_of
steps_start t text = refl

-- the steps from a position on
pub trace-position : TakesSome → (t : TableView) (text : List ℕ) (i : ℕ) → i < length text →
    steps_from t text (length text) i ≡ step_at t text i ∷ steps_from t text (length text) (i + (chosen_at t text i).taken)
trace-position takes t text i h = first takes t text (length text) i h (omega arith)
