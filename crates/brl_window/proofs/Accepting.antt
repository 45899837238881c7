-- For each text there is a path of the window machine that gives its translation.
use Rattle.std.proofs.Common.{ℕ, zero, suc, ◌+◌, ◌-◌, ◌<◌, ◌≤◌, ◌≡◌, Bool, true, false, List, [], ◌∷◌, ◌++◌, length, map, take, drop, refl, arith, cond, sym, ◌∙◌, ap, subst, Some, is_some, ◌⊎◌, inl, inr, nat_eq, append_assoc, append-nil, length-append, length-drop}
use Rattle.std.proofs.lemmas.List.{take-append-le, drop-append-le, take-append-drop, length-append}
use Rattle.std.proofs.lemmas.Bool.{eqb-true}
use Rattle.std.specs.List.{AllByRecursion}
use Rattle.std.specs.Map.{lookup, keys_of}
use Rattle.std.specs.Cmp.{first_so, second_so}
use Rattle.brl_rules.specs.declared.rule.Rule.{Rule}
use Rattle.brl_rules.specs.declared.rule.Info.{Info}
use Rattle.brl_rules.specs.declared.context.Context.{Context}
use Rattle.brl_rules.specs.Choice.{chosen}
use Rattle.brl_rules.specs.Indicators.{indicators, indicators_before}
use Rattle.brl_rules.specs.Rest.{translation_of_rest}
use Rattle.brl_rules.specs.TableView.{TableView}
use Rattle.brl_rules.specs.Text.{context_after_all, is_defined, is_text}
use Rattle.brl_pairs.specs.declared.step.Step.{Step}
use Rattle.brl_pairs.specs.Runs.{Accepts, IsPath, reads_of, cells_of}
use Rattle.brl_states.specs.declared.window_state.WindowState.{WindowState}
use Rattle.brl_states.specs.WindowContext.{context_of}
use Rattle.brl_window.specs.Windows.{longest, width, Window, windows_on, windows, window_step, steps_at, steps_found, window_steps, first_state, window_machine}
use Rattle.brl_window.proofs.Kept.{Choosing, chosen-Takes}
use Rattle.brl_window.proofs.Listing.{in-by_rule_number}
use Rattle.brl_window.proofs.Longer.{chosen-more, run-more}
use Rattle.brl_pairs.proofs.Listing.{IsIn, in-flat_map, in-at}
use Rattle.brl_rules.proofs.OneByOne.{Translating}

-- rules are no longer than the longest
longest-AllByRecursion : (rules : List Rule) (n : ℕ) → longest rules < n → AllByRecursion (λ r. length r.chars < n) rules
longest-AllByRecursion [] n h = tt
longest-AllByRecursion (r ∷ rs) n h = ((let a : length r.chars < n = omega (arith, h) in a), longest-AllByRecursion rs n (omega (arith, h)))

longest-some : (rules : List Rule) → 1 ≤ longest rules
longest-some [] = omega arith
longest-some (r ∷ rules) = omega (arith, longest-some rules)

-- a character that the table defines is in its alphabet
pub defined-in : (entries : List (ℕ × Info)) (c : ℕ) → is_some (lookup (nat_eq c) entries) ≡ true → IsIn c (map (λ e. e.0) entries)
defined-in [] c h = cc
defined-in (e ∷ es) c h = cases (nat_eq c e.0) refl h (defined-in es c)
  where
    cases : (b : Bool) → nat_eq c e.0 ≡ b → is_some (cond b (Some e.1) (lookup (nat_eq c) es)) ≡ true
        → (is_some (lookup (nat_eq c) es) ≡ true → IsIn c (map (λ e. e.0) es)) → (c ≡ e.0) ⊎ IsIn c (map (λ e. e.0) es)
    cases true q k more = inl (eqb-true c e.0 q)
    cases false q k more = inr (more k)

-- the window that is known where this text follows
abbrev pub window_of : ℕ → List ℕ → List ℕ → Window
window_of zero known later = record { known = known; ended = false }
window_of (suc n) known [] = record { known = known; ended = true }
window_of (suc n) known (c ∷ later) = window_of n (known ++ c ∷ []) later

-- what that window is: so much of the text, with at least n more characters, or all of it
pub record Shows (n : ℕ) (known later : List ℕ) (w : Window) : Type 0 where
  pub left : List ℕ
  pub whole : known ++ later ≡ w.known ++ left
  pub all : w.ended ≡ true → left ≡ []
  pub enough : w.ended ≡ false → length w.known ≡ length known + n

pub window_of-Shows : (n : ℕ) (known later : List ℕ) → Shows n known later (window_of n known later)
window_of-Shows zero known later = record { left = later; whole = refl; all = λ h. cc; enough = λ h. omega arith }
window_of-Shows (suc n) known [] = record { left = []; whole = refl; all = λ h. refl; enough = λ h. cc }
window_of-Shows (suc n) known (c ∷ later) =
    let m = window_of-Shows n (known ++ c ∷ []) later in
    let l : length (known ++ c ∷ []) ≡ length known + 1 = length-append known (c ∷ []) in
    record {
      left = m.left;
      whole = sym (append_assoc known (c ∷ []) later) ∙ m.whole;
      all = m.all;
      enough = λ h. (let e = m.enough h in omega (arith, e, l));
    }

-- it is one of the windows, where the text is of the alphabet
pub window_of-in : (letters : List ℕ) (n : ℕ) (known later : List ℕ) → AllByRecursion (λ c. IsIn c letters) later → IsIn (window_of n known later) (windows_on letters n known)
window_of-in letters zero known later h = inl refl
window_of-in letters (suc n) known [] h = inl refl
window_of-in letters (suc n) known (c ∷ later) h =
    inr (in-flat_map (λ x. windows_on letters n (known ++ x ∷ [])) c (window_of n (known ++ c ∷ []) later) letters h.0 (window_of-in letters n (known ++ c ∷ []) later h.1))

-- what holds of all of a list holds of all after its beginning
pub all-behind : (P : ℕ → Type 0) (xs ys : List ℕ) → AllByRecursion P (xs ++ ys) → AllByRecursion P ys
all-behind P [] ys h = h
all-behind P (x ∷ xs) ys h = all-behind P xs ys h.1

-- what a state knows of the text that is left
pub record Knows (s : WindowState) (rest : List ℕ) : Type 0 where
  pub later : List ℕ
  pub whole : rest ≡ s.coming ++ later
  pub all : s.ended ≡ true → later ≡ []

-- what a window knows of it
pub record Sees (t : TableView) (s : WindowState) (rest : List ℕ) (w : Window) : Type 0 where
  pub is_one : IsIn w (windows t s)
  pub left : List ℕ
  pub whole : rest ≡ w.known ++ left
  pub all : w.ended ≡ true → left ≡ []
  pub enough : w.ended ≡ false → longest t.rules < length w.known

-- the window that a state with this text left knows then
sees-cases : (t : TableView) (b : Bool) (s : WindowState) (rest : List ℕ) → s.ended ≡ b → Knows s rest → AllByRecursion (λ c. IsIn c (keys_of t.characters)) rest
    → (w : Window) × Sees t s rest w
sees-cases t true s rest e k h =
    let w : Window = record { known = s.coming; ended = true } in
    (w, record { is_one = rw e (inl refl); left = k.later; whole = k.whole; all = λ _. k.all e; enough = λ q. cc })
sees-cases t false s rest e k h =
    let n = width t - length s.coming in
    let w = window_of n s.coming k.later in
    let shows = window_of-Shows n s.coming k.later in
    let rest_in = subst (AllByRecursion (λ c. IsIn c (keys_of t.characters))) k.whole h in (
      w,
      record {
        is_one = rw e (window_of-in (keys_of t.characters) n s.coming k.later (all-behind (λ c. IsIn c (keys_of t.characters)) s.coming k.later rest_in));
        left = shows.left;
        whole = k.whole ∙ shows.whole;
        all = shows.all;
        enough = λ q. (let l = shows.enough q in omega (arith, l));
      },
    )

-- what comes of a window at a text that is left: the step is that of the whole text
pub record Steps (t : TableView) (here : Context) (rest : List ℕ) (w : Window) (left : List ℕ) : Type 0 where
  pub choice : chosen t here.classes rest ≡ chosen t here.classes w.known
  pub signs : indicators t here rest ≡ indicators t here w.known
  pub taken : take (chosen t here.classes rest).taken rest ≡ take (chosen t here.classes w.known).taken w.known
  pub behind : drop (chosen t here.classes rest).taken rest ≡ drop (chosen t here.classes w.known).taken w.known ++ left

same-choice : (t : TableView) (here : Context) (b : Bool) (x : ℕ) (xs left : List ℕ) → (b ≡ true → left ≡ []) → (b ≡ false → longest t.rules < length (x ∷ xs))
    → chosen t here.classes (x ∷ (xs ++ left)) ≡ chosen t here.classes (x ∷ xs)
same-choice t here true x xs left all enough = ap (λ l. chosen t here.classes (x ∷ l)) (ap (λ l. xs ++ l) (all refl) ∙ append-nil xs)
same-choice t here false x xs left all enough = chosen-more t here.classes x xs left (omega (arith, enough refl, longest-some t.rules)) (longest-AllByRecursion t.rules (length (x ∷ xs)) (enough refl))

same-signs : (t : TableView) (here : Context) (b : Bool) (x : ℕ) (xs left : List ℕ) → (b ≡ true → left ≡ []) → (b ≡ false → longest t.rules < length (x ∷ xs))
    → indicators t here (x ∷ (xs ++ left)) ≡ indicators t here (x ∷ xs)
same-signs t here true x xs left all enough = ap (λ l. indicators t here (x ∷ l)) (ap (λ l. xs ++ l) (all refl) ∙ append-nil xs)
same-signs t here false x xs left all enough =
    ap (λ run. indicators_before t here run (x ∷ xs)) (run-more t here.classes x xs left (omega (arith, enough refl, longest-some t.rules)))

same-step : (t : TableView) → Choosing t → (here : Context) (b : Bool) (x : ℕ) (xs left : List ℕ) → (b ≡ true → left ≡ []) → (b ≡ false → longest t.rules < length (x ∷ xs))
    → Steps t here (x ∷ (xs ++ left)) (record { known = x ∷ xs; ended = b }) left
same-step t choosing here b x xs left all enough =
    let e = same-choice t here b x xs left all enough in
    let n = (chosen t here.classes (x ∷ xs)).taken in
    let takes = chosen-Takes t choosing here.classes x xs in
    record {
      choice = e;
      signs = same-signs t here b x xs left all enough;
      taken = ap (λ c. take c.taken (x ∷ (xs ++ left))) e ∙ take-append-le n (x ∷ xs) left takes.room;
      behind = ap (λ c. drop c.taken (x ∷ (xs ++ left))) e ∙ drop-append-le n (x ∷ xs) left takes.room;
    }

-- all of these are characters of the table
abbrev pub AreDefined : TableView → List ℕ → Type 0
AreDefined t text = AllByRecursion (λ c. is_defined t c ≡ true) text

are-in : (t : TableView) (text : List ℕ) → AreDefined t text → AllByRecursion (λ c. IsIn c (keys_of t.characters)) text
are-in t [] h = tt
are-in t (c ∷ text) h = (defined-in t.characters c h.0, are-in t text h.1)

none-known : (xs ys : List ℕ) → [] ≡ xs ++ ys → nat_eq (length xs) 0 ≡ true
none-known [] ys h = refl
none-known (x ∷ xs) ys h = cc

-- a path from a state that reads so much and gives its translation
abbrev pub HasPath : TableView → WindowState → List ℕ → Type 0
HasPath t s rest = (path : List (Step WindowState)) × IsPath (window_machine t) s path × (reads_of path ≡ rest) × (cells_of path ≡ translation_of_rest t (context_of s) rest)

-- the step of a window is listed
pub step-in : (t : TableView) (s : WindowState) (x : ℕ) (xs : List ℕ) (b : Bool) → is_defined t x ≡ true → IsIn (record { known = x ∷ xs; ended = b }) (windows t s)
    → IsIn (window_step t (context_of s) (record { known = x ∷ xs; ended = b })) (window_steps t s)
unfolding window_steps
step-in t s x xs b d h =
    let w : Window = record { known = x ∷ xs; ended = b } in
    let step = window_step t (context_of s) w in
    let here : IsIn step (steps_at t (context_of s) w) = rw d (inl refl) in
    in-by_rule_number step (steps_found t s) (in-flat_map (steps_at t (context_of s)) w step (windows t s) h here)

path-at : (t : TableView) → Choosing t → Translating t → (n : ℕ) (s : WindowState) (b : Bool) (x : ℕ) (xs left : List ℕ)
    → ((z : WindowState) (more : List ℕ) → length more ≤ n → Knows z more → AreDefined t more → HasPath t z more)
    → length (x ∷ (xs ++ left)) ≤ suc n → AreDefined t (x ∷ (xs ++ left)) → IsIn (record { known = x ∷ xs; ended = b }) (windows t s)
    → (b ≡ true → left ≡ []) → (b ≡ false → longest t.rules < length (x ∷ xs)) → HasPath t s (x ∷ (xs ++ left))
path-at t choosing translating n s b x xs left on short defined is_one all enough =
    let here = context_of s in
    let rest = x ∷ (xs ++ left) in
    let w : Window = record { known = x ∷ xs; ended = b } in
    let same = same-step t choosing here b x xs left all enough in
    let step = window_step t here w in
    let taken = (chosen t here.classes rest).taken in
    let takes = chosen-Takes t choosing here.classes x (xs ++ left) in
    let more = drop taken rest in
    let shorter : length more ≤ n = omega (arith, length-drop taken rest, takes.some, short) in
    let knows : Knows step.next more = record { later = left; whole = same.behind; all = all } in
    let still : AreDefined t more = all-behind (λ c. is_defined t c ≡ true) (take taken rest) more (subst (AreDefined t) (sym (take-append-drop taken rest)) defined) in
    let path = on step.next more shorter knows still in
    let law = translating.rule here rest (omega arith) in
    let behind : context_after_all t here (take taken rest) ≡ context_of step.next = ap (context_after_all t here) same.taken in
    let cells : step.cells ≡ indicators t here rest ++ (chosen t here.classes rest).cells =
    ap (λ signs. signs ++ (chosen t here.classes w.known).cells) (sym same.signs) ∙ ap (λ c. indicators t here rest ++ c.cells) (sym same.choice) in (
      step ∷ path.0,
      (in-at step (window_steps t s) (step-in t s x xs b defined.0 is_one), path.1),
      ap (λ l. step.reads ++ l) path.2 ∙ ap (λ l. l ++ more) (sym same.taken) ∙ take-append-drop taken rest,
      ap (λ l. step.cells ++ l) path.3 ∙ ap (λ l. l ++ translation_of_rest t (context_of step.next) more) cells
          ∙ ap (λ h. indicators t here rest ++ (chosen t here.classes rest).cells ++ translation_of_rest t h more) (sym behind) ∙ sym law,
    )

-- where a window isn't empty its step is taken
path-by : (t : TableView) → Choosing t → Translating t → (n : ℕ) (s : WindowState) (c : ℕ) (rest known left : List ℕ) (b : Bool)
    → ((z : WindowState) (more : List ℕ) → length more ≤ n → Knows z more → AreDefined t more → HasPath t z more)
    → c ∷ rest ≡ known ++ left → length (c ∷ rest) ≤ suc n → AreDefined t (c ∷ rest) → IsIn (record { known = known; ended = b }) (windows t s)
    → (b ≡ true → left ≡ []) → (b ≡ false → longest t.rules < length known) → HasPath t s (c ∷ rest)
path-by t choosing translating n s c rest [] left true on whole short defined is_one all enough = (let e = all refl in let none : c ∷ rest ≡ [] = whole ∙ e in cc)
path-by t choosing translating n s c rest [] left false on whole short defined is_one all enough = (let e = enough refl in absurd (omega (arith, e)))
path-by t choosing translating n s c rest (x ∷ xs) left b on whole short defined is_one all enough =
    subst (HasPath t s) (sym whole) (path-at t choosing translating n s b x xs left on (subst (λ l. length l ≤ suc n) whole short) (subst (AreDefined t) whole defined) is_one all enough)

pub path-from : (t : TableView) → Choosing t → Translating t → (n : ℕ) (s : WindowState) (rest : List ℕ) → length rest ≤ n → Knows s rest → AreDefined t rest → HasPath t s rest
path-from t choosing translating n s [] short k defined = ([], none-known s.coming k.later k.whole, refl, sym (translating.end (context_of s)))
path-from t choosing translating zero s (c ∷ rest) short k defined = absurd (omega (arith, short))
path-from t choosing translating (suc n) s (c ∷ rest) short k defined =
    let seen = sees-cases t s.ended s (c ∷ rest) refl k (are-in t (c ∷ rest) defined) in
    let w = seen.0 in
    path-by t choosing translating n s c rest w.known seen.1.left w.ended (path-from t choosing translating n) seen.1.whole short defined seen.1.is_one seen.1.all seen.1.enough

text-defined : (t : TableView) (text : List ℕ) → is_text t text ≡ true → AreDefined t text
text-defined t [] h = tt
text-defined t (c ∷ text) h = (first_so (is_defined t c) (is_text t text) h, text-defined t text (second_so (is_defined t c) (is_text t text) h))

-- every text is read by a path that gives its translation
pub accepts : (t : TableView) → Choosing t → Translating t → (text : List ℕ) → is_text t text ≡ true → Accepts (window_machine t) text
accepts t choosing translating text h =
    let p = path-from t choosing translating (length text) first_state text (omega arith) (record { later = text; whole = refl; all = λ q. cc }) (text-defined t text h) in
    record { path = p.0; is_path = p.1; reads = p.2; cells = p.3 ∙ sym (translating.whole text) }
