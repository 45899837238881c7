-- A step of the loop over the letters, over plain lists.
use Rattle.std.proofs.Common.{ℕ, zero, suc, ◌+◌, ◌-◌, ◌<◌, ◌≤◌, ◌≡◌, List, [], ◌∷◌, ◌++◌, length, take, map, refl, arith, sym, ◌∙◌, ap, Some, true, append_assoc, append-nil, slice_get, min, ◌*◌, ◌^◌, ◌⊎◌, inl, inr}
use Rattle.std.proofs.Math.Nat.{pow-succ', suc-mul, mul-zero, zero-mul, mul-one, mul-add, pow-zero}
use Rattle.brl_window.specs.Width.{powers}
use Rattle.std.proofs.lemmas.Grind.{flat_map-append}
use Rattle.std.specs.List.{flat_map}
use Rattle.std.specs.Map.{keys_of}
use Rattle.std.proofs.lemmas.List.{take_all}
use Rattle.brl_rules.specs.declared.rule.Info.{Info}
use Rattle.brl_rules.specs.declared.context.Context.{Context}
use Rattle.brl_rules.specs.TableView.{TableView}
use Rattle.brl_pairs.specs.declared.step.Step.{Step}
use Rattle.brl_pairs.proofs.Lists.{take-got}
use Rattle.brl_states.specs.declared.window_state.WindowState.{WindowState}
use Rattle.brl_window.specs.Windows.{windows_on, steps_at}

one-more : {X Y : Type 0} (S : X → List Y) (W : ℕ → List X) (before : List ℕ) (c : ℕ) → flat_map S (flat_map W (before ++ c ∷ [])) ≡ flat_map S (flat_map W before) ++ flat_map S (W c)
one-more S W [] c = ap (λ l. flat_map S l) (append-nil (W c))
one-more S W (x ∷ before) c =
    flat_map-append S (W x) (flat_map W (before ++ c ∷ [])) ∙ ap (λ l. flat_map S (W x) ++ l) (one-more S W before c)
    ∙ sym (append_assoc (flat_map S (W x)) (flat_map S (flat_map W before)) (flat_map S (W c)))
    ∙ ap (λ l. l ++ flat_map S (W c)) (sym (flat_map-append S (W x) (flat_map W before)))

pub found_more : {X Y : Type 0} (S : X → List Y) (W : ℕ → List X) (old first now new : List Y) (letters : List ℕ) (i c : ℕ) → slice_get letters i ≡ Some c
    → now ≡ old ++ (first ++ flat_map S (flat_map W (take i letters))) → new ≡ now ++ flat_map S (W c)
    → new ≡ old ++ (first ++ flat_map S (flat_map W (take (i + 1) letters)))
found_more S W old first now new letters i c at h k =
    k ∙ ap (λ l. l ++ flat_map S (W c)) h ∙ append_assoc old (first ++ flat_map S (flat_map W (take i letters))) (flat_map S (W c))
    ∙ ap (λ l. old ++ l) (append_assoc first (flat_map S (flat_map W (take i letters))) (flat_map S (W c)))
    ∙ ap (λ l. old ++ (first ++ l)) (sym (ap (λ l. flat_map S (flat_map W l)) (take-got letters i c at) ∙ one-more S W (take i letters) c))

pub all_found : (t : TableView) (here : Context) (letters known : List ℕ) (more n : ℕ) (old new : List (Step WindowState)) → 0 < more → length letters ≤ n
    → new ≡ old ++ (steps_at t here (record { known = known; ended = true }) ++ flat_map (steps_at t here) (flat_map (λ c. windows_on letters (more - 1) (known ++ c ∷ [])) (take n letters)))
    → new ≡ old ++ flat_map (steps_at t here) (windows_on letters more known)
all_found t here letters known zero n old new some enough h = absurd (omega (arith, some))
all_found t here letters known (suc more) n old new some enough h =
    h ∙ ap (λ k. old ++ (steps_at t here (record { known = known; ended = true }) ++ flat_map (steps_at t here) (flat_map (λ c. windows_on letters k (known ++ c ∷ [])) (take n letters)))) (let e : suc more - 1 ≡ more = omega arith in e)
    ∙ ap (λ l. old ++ (steps_at t here (record { known = known; ended = true }) ++ flat_map (steps_at t here) (flat_map (λ c. windows_on letters more (known ++ c ∷ [])) l))) (take_all n letters enough)

pub first_found : (t : TableView) (here : Context) (known slice : List ℕ) (old new : List (Step WindowState)) → slice ≡ known → new ≡ old ++ steps_at t here (record { known = slice; ended = true })
    → new ≡ old ++ (steps_at t here (record { known = known; ended = true }) ++ [])
first_found t here known slice old new e h =
    h ∙ ap (λ l. old ++ steps_at t here (record { known = l; ended = true })) e ∙ ap (λ l. old ++ l) (sym (append-nil (steps_at t here (record { known = known; ended = true }))))

pub letter_found : (t : TableView) (here : Context) (letters known kept pushed : List ℕ) (more i c : ℕ) (old now new : List (Step WindowState))
    → slice_get letters i ≡ Some c → kept ≡ known → pushed ≡ kept ++ c ∷ []
    → now ≡ old ++ (steps_at t here (record { known = known; ended = true }) ++ flat_map (steps_at t here) (flat_map (λ x. windows_on letters more (known ++ x ∷ [])) (take i letters)))
    → new ≡ now ++ flat_map (steps_at t here) (windows_on letters more pushed)
    → new ≡ old ++ (steps_at t here (record { known = known; ended = true }) ++ flat_map (steps_at t here) (flat_map (λ x. windows_on letters more (known ++ x ∷ [])) (take (i + 1) letters)))
letter_found t here letters known kept pushed more i c old now new at e p h k =
    found_more (steps_at t here) (λ x. windows_on letters more (known ++ x ∷ [])) old (steps_at t here (record { known = known; ended = true })) now new letters i c at h
    (k ∙ ap (λ l. now ++ flat_map (steps_at t here) (windows_on letters more l)) (p ∙ ap (λ l. l ++ c ∷ []) e))

pub letters-count : (t : TableView) → length (keys_of t.characters) ≡ length t.characters
letters-count t = go t.characters
  where
    go : (es : List (ℕ × Info)) → length (map (λ e. e.0) es) ≡ length es
    go [] = refl
    go (e ∷ es) = ap suc (go es)

-- n + n^2 + .. + n^k, from the front
pub powers-next : (n k : ℕ) → powers n (suc k) ≡ n + n * powers n k
powers-next n zero = (let e : n ^ 1 ≡ n = pow-succ' n 0 ∙ ap (λ k. n * k) (pow-zero n) ∙ mul-one n in omega (arith, e, mul-zero n))
powers-next n (suc k) =
    omega (arith, powers-next n k, pow-succ' n (suc k), mul-add n (powers n k) (n ^ suc k))

-- no matter where the sum is cut off
pub cut-next : (n p m : ℕ) → m ≡ min p 10001 → min (n + n * m) 10001 ≡ min (n + n * p) 10001
cut-next zero p m e = omega (arith, zero-mul m, zero-mul p)
cut-next (suc n) p m e = elim (le_or_lt p 10001) [
  | inl h ↦ ap (λ x. min (suc n + suc n * x) 10001) (let q : m ≡ p = omega (arith, e, h) in q)
  | inr h ↦ (let q : m ≡ 10001 = omega (arith, e, h) in omega (arith, suc-mul n m, suc-mul n p, q, h))
]
  where
    le_or_lt : (a b : ℕ) → (a ≤ b) ⊎ (b < a)
    le_or_lt a b = grind arith

pub count_next : (n k m count new : ℕ) → count ≡ n → m ≡ min (powers n k) 10001 → new ≡ min (count + count * m) 10001 → new ≡ min (powers n (k + 1)) 10001
count_next n k m count new e h f =
    f ∙ ap (λ c. min (c + c * m) 10001) e ∙ cut-next n (powers n k) m h ∙ ap (λ x. min x 10001) (sym (powers-next n k))
    ∙ ap (λ x. min (powers n x) 10001) (let q : suc k ≡ k + 1 = omega arith in q)
