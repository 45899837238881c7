-- The translation by position is the translation of the rest, and unfolds one rule at a time.
use Rattle.std.proofs.Common.{ℕ, zero, suc, ◌+◌, ◌≤◌, ◌<◌, ◌≡◌, true, false, List, [], ◌∷◌, ◌++◌, length, take, drop, refl, arith, nat_lt, sym, ◌∙◌, ap, Some, add-zero, length-drop}
use Rattle.std.proofs.lemmas.List.{drop-drop, length-take-le, take-append-drop}
use Rattle.std.specs.List.{slice_get}
use Rattle.std.proofs.lemmas.Bool.{le-ltb, lt-ltb}
use Rattle.brl_rules.specs.declared.context.Context.{Context}
use Rattle.brl_rules.specs.TableView.{TableView}
use Rattle.brl_rules.specs.Text.{at_start, classes_before, context_at, context_after, context_after_all}
use Rattle.brl_rules.specs.Indicators.{indicators}
use Rattle.brl_rules.specs.Choice.{chosen}
use Rattle.brl_rules.specs.Translation.{indicators_at, chosen_at, translation_from, translation}
use Rattle.brl_rules.specs.Rest.{rest_from, translation_of_rest}
use Rattle.brl_rules.proofs.TakenLengths.{chosen-Takes, chosen-takes}

-- any number of steps that is large enough gives the same translation
pub rest_from-steps : (t : TableView) (n m : ℕ) (here : Context) (rest : List ℕ) → length rest ≤ n → length rest ≤ m → rest_from t n here rest ≡ rest_from t m here rest
rest_from-steps t zero zero here rest h k = refl
rest_from-steps t zero (suc m) here [] h k = refl
rest_from-steps t zero (suc m) here (c ∷ rest) h k = absurd (omega (arith, h))
rest_from-steps t (suc n) zero here [] h k = refl
rest_from-steps t (suc n) zero here (c ∷ rest) h k = absurd (omega (arith, k))
rest_from-steps t (suc n) (suc m) here [] h k = refl
rest_from-steps t (suc n) (suc m) here (c ∷ rest) h k =
    let choice = chosen t here.classes (c ∷ rest) in
    let takes = chosen-Takes t here.classes c rest in
    let left : length (drop choice.taken (c ∷ rest)) ≤ length rest = omega (arith, length-drop choice.taken (c ∷ rest), takes.some) in
    ap (λ x. indicators t here (c ∷ rest) ++ choice.cells ++ x)
    (rest_from-steps t n m (context_after_all t here (take choice.taken (c ∷ rest))) (drop choice.taken (c ∷ rest)) (omega arith) (omega arith))

-- one rule
pub translation_of_rest-rule : (t : TableView) (here : Context) (c : ℕ) (rest : List ℕ) →
    translation_of_rest t here (c ∷ rest) ≡ indicators t here (c ∷ rest) ++ (chosen t here.classes (c ∷ rest)).cells
    ++ translation_of_rest t (context_after_all t here (take (chosen t here.classes (c ∷ rest)).taken (c ∷ rest))) (drop (chosen t here.classes (c ∷ rest)).taken (c ∷ rest))
unfolding translation_of_rest
translation_of_rest-rule t here c rest =
    let choice = chosen t here.classes (c ∷ rest) in
    let takes = chosen-Takes t here.classes c rest in
    let left : length (drop choice.taken (c ∷ rest)) ≤ length rest = omega (arith, length-drop choice.taken (c ∷ rest), takes.some) in
    ap (λ x. indicators t here (c ∷ rest) ++ choice.cells ++ x)
    (rest_from-steps t (length rest) (length (drop choice.taken (c ∷ rest))) (context_after_all t here (take choice.taken (c ∷ rest))) (drop choice.taken (c ∷ rest)) left (omega arith))

pub translation_of_rest-nil : (t : TableView) (here : Context) → translation_of_rest t here [] ≡ []
unfolding translation_of_rest
translation_of_rest-nil t here = refl

pub slice_get-at : (i : ℕ) (text : List ℕ) (x : ℕ) (rest : List ℕ) → drop i text ≡ x ∷ rest → slice_get text i ≡ Some x
slice_get-at zero text x rest e = ap (λ l. slice_get l 0) e
slice_get-at (suc i) [] x rest e = cc
slice_get-at (suc i) (y ∷ ys) x rest e = slice_get-at i ys x rest e

pub drop-next : (i : ℕ) (text : List ℕ) (x : ℕ) (rest : List ℕ) → drop i text ≡ x ∷ rest → drop (suc i) text ≡ rest
drop-next zero text x rest e = ap (drop 1) e
drop-next (suc i) [] x rest e = cc
drop-next (suc i) (y ∷ ys) x rest e = drop-next i ys x rest e

-- the context after xs is that of the position after them
pub context_after_all-at : (t : TableView) (text : List ℕ) (i : ℕ) (xs ys : List ℕ) → drop i text ≡ xs ++ ys
    → context_at t text (i + length xs) ≡ context_after_all t (context_at t text i) xs
context_after_all-at t text i [] ys e = rw add-zero refl
context_after_all-at t text i (x ∷ xs) ys e =
    let here : context_at t text (suc i) ≡ context_after t (context_at t text i) x = rw (slice_get-at i text x (xs ++ ys) e) refl in
    let more = context_after_all-at t text (suc i) xs ys (drop-next i text x (xs ++ ys) e) in
    let place : i + suc (length xs) ≡ suc i + length xs = omega arith in
    rw (← here) (ap (context_at t text) place ∙ more)

-- a position before the end, and the end
pub in_text : (i : ℕ) (text : List ℕ) (x : ℕ) (rest : List ℕ) → drop i text ≡ x ∷ rest → nat_lt i (length text) ≡ true
in_text i text x rest e = (let size = sym (length-drop i text) ∙ ap length e in lt-ltb i (length text) (omega (arith, size)))

pub at_end : (i : ℕ) (text : List ℕ) → drop i text ≡ [] → nat_lt i (length text) ≡ false
at_end i text e = (let size = sym (length-drop i text) ∙ ap length e in le-ltb i (length text) (omega (arith, size)))

-- the step at a position, given the rest there
step : (t : TableView) (text : List ℕ) (n i : ℕ) (rest : List ℕ) → drop i text ≡ rest
    → ((j : ℕ) → translation_from t text n j ≡ rest_from t n (context_at t text j) (drop j text))
    → translation_from t text (suc n) i ≡ rest_from t (suc n) (context_at t text i) rest
step t text n i [] e more = rw (at_end i text e) refl
step t text n i (c ∷ rest) e more =
    let here = context_at t text i in
    let choice = chosen t here.classes (c ∷ rest) in
    let takes = chosen-Takes t here.classes c rest in
    let taken : length (take choice.taken (c ∷ rest)) ≡ choice.taken = length-take-le choice.taken (c ∷ rest) takes.room in
    let split : drop i text ≡ take choice.taken (c ∷ rest) ++ drop choice.taken (c ∷ rest) = e ∙ sym (take-append-drop choice.taken (c ∷ rest)) in
    let behind : context_at t text (i + choice.taken) ≡ context_after_all t here (take choice.taken (c ∷ rest)) =
    ap (λ k. context_at t text (i + k)) (sym taken) ∙ context_after_all-at t text i (take choice.taken (c ∷ rest)) (drop choice.taken (c ∷ rest)) split in
    let left : drop (i + choice.taken) text ≡ drop choice.taken (c ∷ rest) = sym (drop-drop choice.taken i text) ∙ ap (drop choice.taken) e in
    rw (in_text i text c rest e, e)
    (ap (λ x. indicators t here (c ∷ rest) ++ choice.cells ++ x)
    (more (i + choice.taken) ∙ ap (λ h. rest_from t n h (drop (i + choice.taken) text)) behind
    ∙ ap (rest_from t n (context_after_all t here (take choice.taken (c ∷ rest)))) left))

-- the translation from a position on is that of the rest there
pub translation_from-rest : (t : TableView) (text : List ℕ) (n i : ℕ) → translation_from t text n i ≡ rest_from t n (context_at t text i) (drop i text)
translation_from-rest t text zero i = refl
translation_from-rest t text (suc n) i = step t text n i (drop i text) refl (translation_from-rest t text n)

-- the translation of a text is that of the whole text as a rest
pub translation-rest : (t : TableView) (text : List ℕ) → translation t text ≡ translation_of_rest t at_start text
unfolding translation translation_of_rest
translation-rest t text = translation_from-rest t text (length text) 0

-- one rule, at any rest that isn't empty
pub translation_of_rest-step : (t : TableView) (here : Context) (rest : List ℕ) → 0 < length rest →
    translation_of_rest t here rest ≡ indicators t here rest ++ (chosen t here.classes rest).cells
    ++ translation_of_rest t (context_after_all t here (take (chosen t here.classes rest).taken rest)) (drop (chosen t here.classes rest).taken rest)
translation_of_rest-step t here [] h = absurd (omega (arith, h))
translation_of_rest-step t here (c ∷ rest) h = translation_of_rest-rule t here c rest

-- the context after the next n characters
pub context_after_all-take : (t : TableView) (text : List ℕ) (i n : ℕ) → n ≤ length (drop i text)
    → context_after_all t (context_at t text i) (take n (drop i text)) ≡ context_at t text (i + n)
context_after_all-take t text i n h =
    sym (context_after_all-at t text i (take n (drop i text)) (drop n (drop i text)) (sym (take-append-drop n (drop i text))))
    ∙ ap (λ k. context_at t text (i + k)) (length-take-le n (drop i text) h)

-- the translation from a position on, and its one equation
pub translation_from-at : (t : TableView) (text : List ℕ) (i : ℕ) → translation_from t text (length text) i ≡ translation_of_rest t (context_at t text i) (drop i text)
unfolding translation_of_rest
translation_from-at t text i =
    let short : length (drop i text) ≤ length text = omega (arith, length-drop i text) in
    translation_from-rest t text (length text) i ∙ rest_from-steps t (length text) (length (drop i text)) (context_at t text i) (drop i text) short (omega arith)

pub translation_from-step : (t : TableView) (text : List ℕ) (i : ℕ) → i < length text →
    translation_from t text (length text) i ≡ indicators_at t text i ++ (chosen_at t text i).cells ++ translation_from t text (length text) (i + (chosen_at t text i).taken)
translation_from-step t text i h =
    let here = context_at t text i in
    let rest = drop i text in
    let some : 0 < length rest = omega (arith, length-drop i text) in
    let n = (chosen_at t text i).taken in
    let takes = chosen-takes t (classes_before t text i) rest some in
    let behind : context_after_all t here (take n rest) ≡ context_at t text (i + n) = context_after_all-take t text i n takes.room in
    let left : drop n rest ≡ drop (i + n) text = drop-drop n i text in
    let law = translation_of_rest-step t here rest some in
    let from = translation_from-at t text i in
    let on = translation_from-at t text (i + n) in
    let same : translation_of_rest t (context_after_all t here (take n rest)) (drop n rest) ≡ translation_of_rest t (context_at t text (i + n)) (drop (i + n) text) =
    ap (λ h. translation_of_rest t h (drop n rest)) behind ∙ ap (translation_of_rest t (context_at t text (i + n))) left in
    from ∙ law ∙ ap (λ x. indicators_at t text i ++ (chosen_at t text i).cells ++ x) (same ∙ sym on)
