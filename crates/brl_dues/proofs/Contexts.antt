-- The context after a character, where it doesn't keep numeric mode, depends on the classes before
-- it alone.
use Rattle.std.proofs.Common.{◌≡◌, ℕ, Bool, false, ◌&&◌, ◌||◌, List, [], ◌∷◌, ◌++◌, refl, sym, ap, ap₂, ◌∙◌}
use Rattle.brl_rules.specs.declared.context.Context.{Context}
use Rattle.brl_rules.specs.TableView.{TableView}
use Rattle.brl_rules.specs.Text.{are_caps_run, classes_of, context_after, context_after_all, is_literary, is_mode}

pub context-last : (t : TableView) (here : Context) (xs : List ℕ) (c : ℕ) → context_after_all t here (xs ++ c ∷ []) ≡ context_after t (context_after_all t here xs) c
context-last t here [] c = refl
context-last t here (x ∷ xs) c = context-last t (context_after t here x) xs c

same-context : (t : TableView) (x y : Context) (c : ℕ) → x.classes ≡ y.classes → is_mode t c ≡ false → context_after t x c ≡ context_after t y c
same-context t x y c e h =
    let none = λ (n : Bool). ap (λ b. is_literary t c || (b && n)) h in
    ap₂ (λ classes (numeric : Bool). record { classes = classes_of t c; numeric = numeric; run = are_caps_run t classes (classes_of t c) }) e (none x.numeric ∙ sym (none y.numeric))

pub last-alone : (t : TableView) (here : Context) (chars others : List ℕ) (last c : ℕ) → chars ≡ others ++ last ∷ [] → is_mode t c ≡ false
    → context_after t (context_after_all t here (last ∷ [])) c ≡ context_after t (context_after_all t here chars) c
last-alone t here chars others last c is h =
    let behind : context_after_all t here chars ≡ context_after t (context_after_all t here others) last = ap (context_after_all t here) is ∙ context-last t here others last in
    same-context t (context_after t here last) (context_after_all t here chars) c (sym (ap (λ (x : Context). x.classes) behind)) h
