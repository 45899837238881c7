-- The steps in a run of capitals, listed character by character.
use Rattle.std.proofs.Common.{◌≡◌, ℕ, Bool, true, false, ◌&&◌, ◌||◌, List, [], ◌∷◌, ◌++◌, Option, Some, None, map, refl, sym, ap, ◌∙◌, cond, nat_eq, append_assoc, append-nil}
use Rattle.std.specs.List.{flat_map, list_all, list_any}
use Rattle.std.specs.Option.{option_map_or}
use Rattle.std.proofs.lemmas.List.Folds.{flat_map-map}
use Rattle.brl_pairs.specs.declared.step.Step.{Step}
use Rattle.brl_rules.specs.declared.place.Cond.{Cond}
use Rattle.brl_rules.specs.TableView.{TableView}
use Rattle.brl_rules.specs.Text.{fold_of, has_word_capitals}
use Rattle.brl_dues.specs.declared.cased.Capital.{Capital}
use Rattle.brl_states.specs.declared.due.Due.{Due}
use Rattle.brl_states.specs.declared.dues_state.DuesState.{DuesState}
use Rattle.brl_dues.specs.CapitalList.{capital_of, is_fold_of_capital}
use Rattle.brl_dues.specs.Capitals.{capitals, choices, further, is_upper, put_capital}
use Rattle.brl_dues.specs.Carry.{gathered, need}
use Rattle.brl_dues.specs.LetterView.{LetterView}
use Rattle.brl_dues.specs.Letters.{bars_of, left_past, left_with, letter_form, letter_step, next_step, caps_run_step, caps_run_steps}
use Rattle.brl_dues.specs.Steps.{step_if}
use Rattle.brl_dues.proofs.Casing.{none-in-run}
use Rattle.brl_dues.proofs.Finding.{flat_map-flat_map, flat_map-none, flat_map-same}
use Rattle.brl_dues.proofs.Gathering.{gathered-broken, gathered-left}
use Rattle.brl_dues.proofs.Past.{left_past-append}

-- ---- No choices

module _ (t : TableView) where
  -- no capital has this fold
  put-none : (a : ℕ) (texts : List (List ℕ)) (cs : List ℕ) → list_any (λ (capital : Capital). nat_eq a capital.fold) (map (capital_of t) cs) ≡ false → flat_map (put_capital t a texts) cs ≡ []
  put-none a texts [] h = refl
  put-none a texts (c ∷ cs) h = at (nat_eq a (fold_of t c)) h (put-none a texts cs)
    where
      at : (b : Bool) → (b || list_any (λ (capital : Capital). nat_eq a capital.fold) (map (capital_of t) cs)) ≡ false
          → (list_any (λ (capital : Capital). nat_eq a capital.fold) (map (capital_of t) cs) ≡ false → flat_map (put_capital t a texts) cs ≡ [])
          → cond b (map (λ text. c ∷ text) texts) [] ++ flat_map (put_capital t a texts) cs ≡ []
      at true e more = cc
      at false e more = more e

  -- a capital before no texts
  put-nothing : (a c : ℕ) → put_capital t a [] c ≡ []
  put-nothing a c = at (nat_eq a (fold_of t c))
    where
      at : (b : Bool) → cond b (let x : List (List ℕ) = [] in x) [] ≡ []
      at true = refl
      at false = refl

  pub no-choices : (chars : List ℕ) → list_all (is_fold_of_capital t) chars ≡ false → choices t chars ≡ []
  no-choices [] h = cc
  no-choices (a ∷ chars) h = at (is_fold_of_capital t a) refl h (no-choices chars)
    where
      at : (b : Bool) → is_fold_of_capital t a ≡ b → (b && list_all (is_fold_of_capital t) chars) ≡ false
          → (list_all (is_fold_of_capital t) chars ≡ false → choices t chars ≡ []) → choices t (a ∷ chars) ≡ []
      at true e k more = ap (λ texts. flat_map (put_capital t a texts) (capitals t)) (more k) ∙ flat_map-none (put_capital t a []) (put-nothing a) (capitals t)
      at false e k more = put-none a (choices t chars) (capitals t) e

-- ---- One step

module _ (t : TableView) (s : DuesState) (l : LetterView) (number : ℕ) (run : Bool) (others : List ℕ) (after : Cond) (cells : List ℕ) where
  -- a step that breaks a due
  pub broken-next : left_past t (l.character ∷ others) l.bars ≡ None → (next : Cond) → next_step t s l number run others after cells next ≡ []
  broken-next e next =
      ap (step_if t s (letter_form l number run next others after cells)) (gathered-broken t (l.character ∷ others) l.bars (need after ∷ need next ∷ bars_of t s.before run l.character others l.above) e)

  pub broken-step : left_past t (l.character ∷ others) l.bars ≡ None → letter_step t s l number run others after cells ≡ []
  broken-step e = at (further t s.before run (l.character ∷ others))
    where
      at : (o : Option Cond) → option_map_or (next_step t s l number run others after cells) o [] ≡ []
      at None = refl
      at (Some next) = broken-next e next

  -- a step where these dues are left of the old ones
  pub next-left : (next : Cond) (left : List Due) (o : Option (List Due)) → left_past t (l.character ∷ others) l.bars ≡ Some left → o ≡ gathered (left_with t s.before left l run next others after)
      → step_if t s (letter_form l number run next others after cells) o ≡ next_step t s l number run others after cells next
  next-left next left o e is =
      ap (step_if t s (letter_form l number run next others after cells))
      (is ∙ sym (gathered-left t (l.character ∷ others) l.bars (need after ∷ need next ∷ bars_of t s.before run l.character others l.above) left e))

-- ---- Beginnings

-- what is left past one more capital
pub left-further : (t : TableView) (l : LetterView) (begun : List ℕ) (c : ℕ) (left : List Due) (o : Option (List Due)) → left_past t (l.character ∷ begun) l.bars ≡ Some left → o ≡ left_past t (c ∷ []) left
    → left_past t (l.character ∷ (begun ++ c ∷ [])) l.bars ≡ o
left-further t l begun c left o e is =
    left_past-append t (l.character ∷ begun) (c ∷ []) l.bars ∙ ap (λ p. option_map_or (left_past t (c ∷ [])) p None) e ∙ sym is

module _ (t : TableView) (s : DuesState) (l : LetterView) (number : ℕ) (after : Cond) (cells : List ℕ) where
  -- nothing goes on from a beginning that breaks a due
  pub broken-steps : (begun chars : List ℕ) → left_past t (l.character ∷ begun) l.bars ≡ None → caps_run_steps t s l number after cells begun chars ≡ []
  broken-steps begun chars e =
      flat_map-none (λ text. caps_run_step t s l number after cells (begun ++ text))
      (λ text. broken-step t s l number true (begun ++ text) after cells
      (left_past-append t (l.character ∷ begun) text l.bars ∙ ap (λ o. option_map_or (left_past t text) o None) e)) (choices t chars)

  -- there are none
  pub nothing-on : (old : List (Step DuesState)) (begun chars : List ℕ) → caps_run_steps t s l number after cells begun chars ≡ [] → old ≡ old ++ caps_run_steps t s l number after cells begun chars
  nothing-on old begun chars e = sym (append-nil old) ∙ ap (λ l. old ++ l) (sym e)

  -- no choice, or no run that begins with this character
  pub no-steps : (chars : List ℕ) → list_all (is_fold_of_capital t) chars ≡ false → caps_run_steps t s l number after cells [] chars ≡ []
  no-steps chars h = ap (flat_map (caps_run_step t s l number after cells)) (no-choices t chars h)

  pub no-run : (chars : List ℕ) → (has_word_capitals t && is_upper t l.character) ≡ false → caps_run_steps t s l number after cells [] chars ≡ []
  no-run chars h = flat_map-none (caps_run_step t s l number after cells) (none-in-run t s l number after cells h) (choices t chars)

  -- the steps that go on from a beginning with a capital, if it has this fold
  abbrev pub steps_after : List ℕ → ℕ → List ℕ → Capital → List (Step DuesState)
  steps_after begun a chars capital = cond (nat_eq a capital.fold) (caps_run_steps t s l number after cells (begun ++ capital.character ∷ []) chars) []

  put-steps : (begun : List ℕ) (a : ℕ) (chars : List ℕ) (c : ℕ)
      → flat_map (λ text. caps_run_step t s l number after cells (begun ++ text)) (put_capital t a (choices t chars) c) ≡ steps_after begun a chars (capital_of t c)
  put-steps begun a chars c = at (nat_eq a (fold_of t c))
    where
      at : (b : Bool) → flat_map (λ text. caps_run_step t s l number after cells (begun ++ text)) (cond b (map (λ text. c ∷ text) (choices t chars)) [])
          ≡ cond b (caps_run_steps t s l number after cells (begun ++ c ∷ []) chars) []
      at true =
          flat_map-map (λ text. caps_run_step t s l number after cells (begun ++ text)) (λ text. c ∷ text) (choices t chars)
          ∙ flat_map-same (λ text. caps_run_step t s l number after cells (begun ++ (c ∷ text))) (λ text. caps_run_step t s l number after cells ((begun ++ c ∷ []) ++ text))
          (λ text. ap (caps_run_step t s l number after cells) (sym (append_assoc begun (c ∷ []) text))) (choices t chars)
      at false = refl

  pub steps-by-capital : (begun : List ℕ) (a : ℕ) (chars : List ℕ) → caps_run_steps t s l number after cells begun (a ∷ chars) ≡ flat_map (steps_after begun a chars) (map (capital_of t) (capitals t))
  steps-by-capital begun a chars =
      flat_map-flat_map (λ text. caps_run_step t s l number after cells (begun ++ text)) (put_capital t a (choices t chars)) (capitals t)
      ∙ flat_map-same (λ c. flat_map (λ text. caps_run_step t s l number after cells (begun ++ text)) (put_capital t a (choices t chars) c)) (λ c. steps_after begun a chars (capital_of t c))
      (put-steps begun a chars) (capitals t)
      ∙ sym (flat_map-map (steps_after begun a chars) (capital_of t) (capitals t))

  -- each capital's steps, in the loop over capitals
  module _ (begun : List ℕ) (a : ℕ) (chars : List ℕ) (capital : Capital) (now : List (Step DuesState)) where
    pub same-fold : nat_eq a capital.fold ≡ true → (new : List (Step DuesState)) → new ≡ now ++ caps_run_steps t s l number after cells (begun ++ capital.character ∷ []) chars
        → new ≡ now ++ steps_after begun a chars capital
    same-fold h new e = e ∙ ap (λ b. now ++ cond b (caps_run_steps t s l number after cells (begun ++ capital.character ∷ []) chars) []) (sym h)

    pub broken-fold : left_past t (l.character ∷ (begun ++ capital.character ∷ [])) l.bars ≡ None → now ≡ now ++ steps_after begun a chars capital
    broken-fold e = sym (append-nil now) ∙ ap (λ l. now ++ l) (sym (at (nat_eq a capital.fold)))
      where
        at : (b : Bool) → cond b (caps_run_steps t s l number after cells (begun ++ capital.character ∷ []) chars) [] ≡ []
        at true = broken-steps (begun ++ capital.character ∷ []) chars e
        at false = refl
