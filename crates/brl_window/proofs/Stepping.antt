-- The machine lists exactly the steps of a state's windows.
use Rattle.std.proofs.Common.{ℕ, zero, suc, ◌+◌, ◌-◌, ◌<◌, ◌≡◌, Bool, true, false, List, [], ◌∷◌, ◌++◌, length, refl, arith, cond, sym, ◌∙◌, ap, subst, Some, is_some, inl, inr, nat_eq, append_assoc, append-nil, length-append, IsTrue, ◌&&◌}
use Rattle.std.proofs.lemmas.List.{length-append}
use Rattle.std.proofs.lemmas.Bool.{eq-eqb}
use Rattle.std.specs.Cmp.{first_so, second_so}
use Rattle.std.specs.List.{AllByRecursion}
use Rattle.std.specs.Map.{keys_of, lookup}
use Rattle.brl_pairs.specs.declared.step.Step.{Step}
use Rattle.brl_pairs.specs.Runs.{IsListed}
use Rattle.brl_rules.specs.TableView.{TableView}
use Rattle.brl_rules.specs.Text.{is_defined, is_text}
use Rattle.brl_rules.specs.declared.context.Context.{Context}
use Rattle.brl_rules.specs.declared.rule.Info.{Info}
use Rattle.brl_states.specs.declared.window_state.WindowState.{WindowState}
use Rattle.brl_window.specs.Steps.{IsWindow, IsStep}
use Rattle.brl_states.specs.WindowContext.{context_of}
use Rattle.brl_window.specs.Windows.{Window, begins_defined, steps_at, steps_found, width, window_step, window_steps, windows, windows_on}
use Rattle.brl_window.proofs.Accepting.{defined-in}
use Rattle.brl_window.proofs.Listing.{from-by_rule_number, in-by_rule_number}
use Rattle.brl_pairs.proofs.Listing.{IsIn, at-in, from-flat_map, in-at, in-flat_map}
use Rattle.brl_rules.proofs.Facts.{and-true, not_both}
use Rattle.brl_states.proofs.Defined.{in-defined}

-- all of these are among the letters
abbrev AreLetters : List ℕ → List ℕ → Type 0
AreLetters letters more = AllByRecursion (λ c. IsIn c letters) more

-- a window with up to n more characters has n more, or ends after fewer
record GoesOn (letters : List ℕ) (n : ℕ) (known : List ℕ) (w : Window) : Type 0 where
  more : List ℕ
  begins : w.known ≡ known ++ more
  letters_all : AreLetters letters more
  enough : w.ended ≡ false → length more ≡ n
  fewer : w.ended ≡ true → length more < n

flag : Window → Bool
flag w = w.ended

windows_on-GoesOn : (letters : List ℕ) (n : ℕ) (known : List ℕ) (w : Window) → IsIn w (windows_on letters n known) → GoesOn letters n known w
windows_on-GoesOn letters zero known w (inl e) =
    let on : w.ended ≡ false = ap (λ (v : Window). v.ended) e in
    record {
      more = [];
      begins = ap (λ (v : Window). v.known) e ∙ sym (append-nil known);
      letters_all = tt;
      enough = λ h. refl;
      fewer = λ h. absurd (not_both w.ended h on);
    }
windows_on-GoesOn letters zero known w (inr h) = absurd h
windows_on-GoesOn letters (suc n) known w (inl e) =
    let over : w.ended ≡ true = ap (λ (v : Window). v.ended) e in
    record {
      more = [];
      begins = ap (λ (v : Window). v.known) e ∙ sym (append-nil known);
      letters_all = tt;
      enough = λ h. absurd (not_both w.ended over h);
      fewer = λ h. omega arith;
    }
windows_on-GoesOn letters (suc n) known w (inr h) =
    let m = from-flat_map (λ c. windows_on letters n (known ++ c ∷ [])) w letters h in
    let on = windows_on-GoesOn letters n (known ++ m.0 ∷ []) w m.2 in
    record {
      more = m.0 ∷ on.more;
      begins = on.begins ∙ append_assoc known (m.0 ∷ []) on.more;
      letters_all = (m.1, on.letters_all);
      enough = λ e. (let size = on.enough e in omega (arith, size));
      fewer = λ e. (let size = on.fewer e in omega (arith, size));
    }

none_left : (more : List ℕ) → length more ≡ 0 → more ≡ []
none_left [] h = refl
none_left (c ∷ more) h = absurd (omega (arith, h))

-- each such window is listed
GoesOn-in : (letters : List ℕ) (n : ℕ) (known more : List ℕ) (ended : Bool) → AreLetters letters more → (ended ≡ false → length more ≡ n) → (ended ≡ true → length more < n)
    → IsIn (record { known = known ++ more; ended = ended }) (windows_on letters n known)
GoesOn-in letters zero known more true all enough fewer = (let few = fewer refl in absurd (omega (arith, few)))
GoesOn-in letters zero known more false all enough fewer =
    inl (ap (λ l. let w : Window = record { known = l; ended = false } in w) (ap (λ l. known ++ l) (none_left more (enough refl)) ∙ append-nil known))
GoesOn-in letters (suc n) known [] true all enough fewer = inl (ap (λ l. let w : Window = record { known = l; ended = true } in w) (append-nil known))
GoesOn-in letters (suc n) known [] false all enough fewer = (let size = enough refl in absurd (omega (arith, size)))
GoesOn-in letters (suc n) known (c ∷ more) ended all enough fewer =
    let here = GoesOn-in letters n (known ++ c ∷ []) more ended all.1 (λ e. (let size = enough e in omega (arith, size))) (λ e. (let size = fewer e in omega (arith, size))) in
    inr (in-flat_map (λ x. windows_on letters n (known ++ x ∷ [])) c (record { known = known ++ c ∷ more; ended = ended }) letters all.0
    (subst (λ l. IsIn (record { known = l; ended = ended }) (windows_on letters n (known ++ c ∷ []))) (append_assoc known (c ∷ []) more) here))

letters-text : (t : TableView) (more : List ℕ) → AreLetters (keys_of t.characters) more → is_text t more ≡ true
letters-text t [] h = refl
letters-text t (c ∷ more) h = and-true (is_defined t c) (is_text t more) (in-defined t.characters c h.0) (letters-text t more h.1)

text-letters : (t : TableView) (more : List ℕ) → is_text t more ≡ true → AreLetters (keys_of t.characters) more
text-letters t [] h = tt
text-letters t (c ∷ more) h =
    (defined-in t.characters c (first_so (is_defined t c) (is_text t more) h), text-letters t more (second_so (is_defined t c) (is_text t more) h))

-- the windows of a state
windows-IsWindow : (t : TableView) (s : WindowState) (w : Window) → IsIn w (windows t s) → IsWindow t s w
windows-IsWindow t s w = at s.ended refl
  where
    at : (b : Bool) → s.ended ≡ b
        → IsIn w (cond b (record { known = s.coming; ended = true } ∷ []) (windows_on (keys_of t.characters) (width t - length s.coming) s.coming)) → IsWindow t s w
    at true e (inr h) = absurd h
    at true e (inl h) = record {
      more = [];
      begins = ap (λ (v : Window). v.known) h ∙ sym (append-nil s.coming);
      defined = refl;
      no_more = λ _. (refl, ap (λ (v : Window). v.ended) h);
      enough = λ f. absurd (not_both s.ended e f);
      fewer = λ f. absurd (not_both s.ended e f);
    }
    at false e h =
        let on = windows_on-GoesOn (keys_of t.characters) (width t - length s.coming) s.coming w h in
        let long : length w.known ≡ length s.coming + length on.more = ap length on.begins ∙ length-append s.coming on.more in
        record {
          more = on.more;
          begins = on.begins;
          defined = letters-text t on.more on.letters_all;
          no_more = λ f. absurd (not_both s.ended f e);
          enough = λ _ f. (let size = on.enough f in omega (arith, size, long));
          fewer = λ _ f. (let size = on.fewer f in omega (arith, size, long));
        }

IsWindow-in : (t : TableView) (s : WindowState) (w : Window) → IsWindow t s w → IsIn w (windows t s)
IsWindow-in t s w h = at s.ended refl
  where
    known_is : (l : List ℕ) → w.known ≡ l → (b : Bool) → w.ended ≡ b → w ≡ record { known = l; ended = b }
    known_is l e b f = λ i. record { known = e i; ended = f i }

    at : (b : Bool) → s.ended ≡ b
        → IsIn w (cond b (record { known = s.coming; ended = true } ∷ []) (windows_on (keys_of t.characters) (width t - length s.coming) s.coming))
    at true e =
        let none = h.no_more e in
        inl (known_is s.coming (h.begins ∙ ap (λ l. s.coming ++ l) none.0 ∙ append-nil s.coming) true none.1)
    at false e =
        let long : length w.known ≡ length s.coming + length h.more = ap length h.begins ∙ length-append s.coming h.more in
        subst (λ v. IsIn v (windows_on (keys_of t.characters) (width t - length s.coming) s.coming)) (sym (known_is (s.coming ++ h.more) h.begins w.ended refl))
        (GoesOn-in (keys_of t.characters) (width t - length s.coming) s.coming h.more w.ended (text-letters t h.more h.defined)
        (λ f. (let size = h.enough e f in omega (arith, size, long))) (λ f. (let size = h.fewer e f in omega (arith, size, long))))

-- the step of a window
at-step : (t : TableView) (here : Context) (w : Window) (x : Step WindowState) → IsIn x (steps_at t here w) → IsTrue (begins_defined t w.known) × (x ≡ window_step t here w)
at-step t here w x = at (begins_defined t w.known) refl
  where
    at : (b : Bool) → begins_defined t w.known ≡ b → IsIn x (cond b (window_step t here w ∷ []) []) → IsTrue (begins_defined t w.known) × (x ≡ window_step t here w)
    at true e (inl h) = (e, h)
    at true e (inr h) = absurd h
    at false e h = absurd h

step-at : (t : TableView) (here : Context) (w : Window) (x : Step WindowState) → IsTrue (begins_defined t w.known) → x ≡ window_step t here w → IsIn x (steps_at t here w)
step-at t here w x d e = rw d (inl e)

pub listed-IsStep : (t : TableView) (s : WindowState) (x : Step WindowState) → IsListed (window_steps t s) x → IsStep t s x
unfolding window_steps
listed-IsStep t s x listed =
    let from = from-flat_map (steps_at t (context_of s)) x (windows t s) (from-by_rule_number x (steps_found t s) (at-in x (window_steps t s) listed.0 listed.1)) in
    let here = at-step t (context_of s) from.0 x from.2 in
    record { window = from.0; is_window = windows-IsWindow t s from.0 from.1; defined = here.0; step = here.1 }

pub IsStep-listed : (t : TableView) (s : WindowState) (x : Step WindowState) → IsStep t s x → IsListed (window_steps t s) x
unfolding window_steps
IsStep-listed t s x h =
    in-at x (window_steps t s)
    (in-by_rule_number x (steps_found t s)
    (in-flat_map (steps_at t (context_of s)) h.window x (windows t s) (IsWindow-in t s h.window h.is_window) (step-at t (context_of s) h.window x h.defined h.step)))
