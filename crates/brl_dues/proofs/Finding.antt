-- The steps that are found by the characters that may come are those that the machine lists.
use Rattle.std.proofs.Common.{◌≡◌, ℕ, zero, suc, ◌+◌, ◌≤◌, take, Bool, true, false, ◌&&◌, List, [], ◌∷◌, ◌++◌, Option, Some, None, length, map, filter, drop, refl, sym, ap, ap₂, ◌∙◌, cond, nat_eq, arith, append_assoc, append-nil, length-append}
use Rattle.std.specs.Prelude.{slice_get}
use Rattle.std.proofs.lemmas.Grind.{flat_map-append}
use Rattle.std.proofs.lemmas.List.{take_all}
use Rattle.brl_rules.specs.declared.rule.Info.{Info}
use Rattle.std.proofs.lemmas.List.Folds.{list_all-append, flat_map-map}
use Rattle.std.specs.List.{flat_map, list_all}
use Rattle.std.specs.Map.{keys_of}
use Rattle.std.specs.Option.{option_map_or}
use Rattle.brl_pairs.specs.declared.step.Step.{Step}
use Rattle.brl_rules.specs.declared.class.Class.{Class}
use Rattle.brl_rules.specs.declared.place.Cond.{Cond}
use Rattle.brl_rules.specs.declared.rule.Rule.{Rule}
use Rattle.brl_rules.specs.declared.place.Cond.TheVariants.{Any}
use Rattle.brl_rules.specs.Choice.{own}
use Rattle.brl_rules.specs.Places.{after_of, before_of, holds}
use Rattle.brl_rules.specs.TableView.{TableView}
use Rattle.brl_rules.specs.Text.{classes_of, fold_of}
use Rattle.brl_dues.specs.declared.carry.Carried.{Carried}
use Rattle.brl_states.specs.declared.due.Due.{Due}
use Rattle.brl_states.specs.declared.due.Due.TheVariants.{Need, Bar}
use Rattle.brl_states.specs.declared.dues_state.DuesState.{DuesState}
use Rattle.brl_dues.specs.Capitals.{choices, further, letters}
use Rattle.brl_dues.specs.Carry.{bars_after, bars_past, bars_to, carry, gathered, is_whole, lefts, need, settled_if}
use Rattle.brl_dues.specs.CaseForm.{CaseForm, cased, cased_if, form_if, groups_from, groups_of, own_form, own_forms, rule_form, rule_forms}
use Rattle.brl_dues.specs.LetterView.{LetterView}
use Rattle.brl_dues.specs.Letters.{bars_from, bars_of, begins_with, cased_steps, left_by, letter_form, letter_step, may_come, new_letter, new_letters, next_step, own_step, rule_step, caps_run_step, steps_found, with_rule}
use Rattle.brl_states.specs.Order.{in_order}
use Rattle.brl_dues.specs.Steps.{dues_steps, group_steps, step_if, step_of, steps_of, with_steps}
use Rattle.brl_rules.proofs.Facts.{and-false}
use Rattle.brl_dues.proofs.Bars.{bars-alone}

-- ---- What the rules above ask

-- whether a rule may be taken after a character of these classes where one with this fold comes
abbrev taken_by : Class → ℕ → Rule → Bool
taken_by before fold r = holds (before_of r.place) before && begins_with fold r.chars

abbrev asked_one : Class → ℕ → Rule → List (List ℕ × Cond)
asked_one before fold r = cond (taken_by before fold r) ((drop 1 r.chars, after_of r.place before) ∷ []) []

abbrev pub asked : Class → ℕ → List Rule → List (List ℕ × Cond)
asked before fold rules = flat_map (asked_one before fold) rules

-- the character after these dues, above which these rules are ranked
abbrev pub letter_at : TableView → Class → List Due → List Rule → ℕ → LetterView
letter_at t before dues above c = record { character = c; fold = fold_of t c; bars = filter (bars_from c) dues; above = asked before (fold_of t c) above }

abbrev seen : TableView → List Due → ℕ → List (List ℕ × Cond) → LetterView
seen t dues c above = record { character = c; fold = fold_of t c; bars = filter (bars_from c) dues; above = above }

with_rule-at : (t : TableView) (before : Class) (dues : List Due) (above : List Rule) (r : Rule) (c : ℕ) → with_rule before r (letter_at t before dues above c) ≡ letter_at t before dues (above ++ r ∷ []) c
with_rule-at t before dues above r c =
    let fold = fold_of t c in
    at (taken_by before fold r) (asked before fold above)
    ∙ ap (seen t dues c) (ap (λ l. asked before fold above ++ l) (sym (append-nil (asked_one before fold r))) ∙ sym (flat_map-append (asked_one before fold) above (r ∷ [])))
  where
    at : (b : Bool) (l : List (List ℕ × Cond)) →
        cond b (seen t dues c (l ++ (drop 1 r.chars, after_of r.place before) ∷ [])) (seen t dues c l)
        ≡ seen t dues c (l ++ cond b ((drop 1 r.chars, after_of r.place before) ∷ []) [])
    at true l = refl
    at false l = ap (seen t dues c) (sym (append-nil l))

map-same : {X Y : Type 0} (f g : X → Y) → ((x : X) → f x ≡ g x) → (xs : List X) → map f xs ≡ map g xs
map-same f g h [] = refl
map-same f g h (x ∷ xs) = ap₂ (λ a b. a ∷ b) (h x) (map-same f g h xs)

map-both : {X Y Z : Type 0} (g : Y → Z) (f : X → Y) (xs : List X) → map g (map f xs) ≡ map (λ x. g (f x)) xs
map-both g f [] = refl
map-both g f (x ∷ xs) = ap (λ l. g (f x) ∷ l) (map-both g f xs)

pub letters-more : (t : TableView) (before : Class) (dues : List Due) (above : List Rule) (r : Rule) (cs : List ℕ)
    → map (with_rule before r) (map (letter_at t before dues above) cs) ≡ map (letter_at t before dues (above ++ r ∷ [])) cs
letters-more t before dues above r cs =
    map-both (with_rule before r) (letter_at t before dues above) cs
    ∙ map-same (λ c. with_rule before r (letter_at t before dues above c)) (letter_at t before dues (above ++ r ∷ [])) (with_rule-at t before dues above r) cs

-- ---- The bars of the rules above

module _ (t : TableView) (before : Class) (run : Bool) (c : ℕ) (others : List ℕ) where
  bars-one : (r : Rule) → bars_to t before run (c ∷ others) r ≡ bars_of t before run c others (asked_one before (fold_of t c) r)
  bars-one r = at (holds (before_of r.place) before) r.chars
    where
      begun : (b : Bool) (rest : List ℕ) → cond b (bars_past t before run c others rest (after_of r.place before)) [] ≡ bars_of t before run c others (cond b ((rest, after_of r.place before) ∷ []) [])
      begun true rest = sym (append-nil (bars_past t before run c others rest (after_of r.place before)))
      begun false rest = refl

      at : (h : Bool) (chars : List ℕ) → cond h (bars_after t before run c others chars (after_of r.place before)) []
          ≡ bars_of t before run c others (cond (h && begins_with (fold_of t c) chars) ((drop 1 chars, after_of r.place before) ∷ []) [])
      at false chars = refl
      at true [] = refl
      at true (first ∷ rest) = begun (nat_eq first (fold_of t c)) rest

  bars-same : (above : List Rule) → flat_map (bars_to t before run (c ∷ others)) above ≡ bars_of t before run c others (asked before (fold_of t c) above)
  bars-same [] = refl
  bars-same (r ∷ above) =
      ap₂ (λ a b. a ++ b) (bars-one r) (bars-same above)
      ∙ sym (flat_map-append (λ (a : List ℕ × Cond). bars_past t before run c others a.0 a.1) (asked_one before (fold_of t c) r) (asked before (fold_of t c) above))

  -- ---- One step

  same-dues : (dues : List Due) (next after : Cond) (above : List Rule) → may_come t dues c ≡ true
      → gathered (map (carry t (c ∷ others)) dues ++ (need after ∷ need next ∷ flat_map (bars_to t before run (c ∷ others)) above)) ≡ gathered (left_by t before (letter_at t before dues above c) run next others after)
  same-dues dues next after above h =
      ap (λ l. gathered (map (carry t (c ∷ others)) dues ++ (need after ∷ need next ∷ l))) (bars-same above)
      ∙ bars-alone t c others (need after ∷ need next ∷ bars_of t before run c others (asked before (fold_of t c) above)) dues h

module _ (t : TableView) (c : ℕ) (others : List ℕ) where
  -- a character that a need refuses
  refused : (dues : List Due) → may_come t dues c ≡ false → list_all is_whole (map (carry t (c ∷ others)) dues) ≡ false
  refused [] h = cc
  refused (Need cond ∷ dues) h = at (holds cond (classes_of t c)) h (refused dues)
    where
      at : (b : Bool) → (b && may_come t dues c) ≡ false → (may_come t dues c ≡ false → list_all is_whole (map (carry t (c ∷ others)) dues) ≡ false)
          → (is_whole (settled_if b) && list_all is_whole (map (carry t (c ∷ others)) dues)) ≡ false
      at true e more = more e
      at false e more = refl
  refused (Bar chars cond ∷ dues) h =
      ap (λ b. is_whole (carry t (c ∷ others) (Bar chars cond)) && b) (refused dues h) ∙ and-false (is_whole (carry t (c ∷ others) (Bar chars cond)))

  none-gathered : (dues : List Due) (ys : List Carried) → may_come t dues c ≡ false → gathered (map (carry t (c ∷ others)) dues ++ ys) ≡ None
  none-gathered dues ys h =
      ap (λ b. cond b (Some (in_order (lefts (map (carry t (c ∷ others)) dues ++ ys)))) None)
      (list_all-append is_whole (map (carry t (c ∷ others)) dues) ys ∙ ap (λ b. b && list_all is_whole ys) (refused dues h))

pub flat_map-same : {X Y : Type 0} (f g : X → List Y) → ((x : X) → f x ≡ g x) → (xs : List X) → flat_map f xs ≡ flat_map g xs
flat_map-same f g h [] = refl
flat_map-same f g h (x ∷ xs) = ap₂ (λ a b. a ++ b) (h x) (flat_map-same f g h xs)

pub flat_map-none : {X Y : Type 0} (f : X → List Y) → ((x : X) → f x ≡ []) → (xs : List X) → flat_map f xs ≡ []
flat_map-none f h [] = refl
flat_map-none f h (x ∷ xs) = ap₂ (λ a b. a ++ b) (h x) (flat_map-none f h xs)

-- lists of lists
pub flat_map-flat_map : {X Y Z : Type 0} (f : Y → List Z) (g : X → List Y) (xs : List X) → flat_map f (flat_map g xs) ≡ flat_map (λ x. flat_map f (g x)) xs
flat_map-flat_map f g [] = refl
flat_map-flat_map f g (x ∷ xs) = flat_map-append f (g x) (flat_map g xs) ∙ ap (λ l. flat_map f (g x) ++ l) (flat_map-flat_map f g xs)

-- elements that give nothing may be left out
flat_map-filter : {X Y : Type 0} (f g : X → List Y) (p : X → Bool) → ((x : X) → f x ≡ cond (p x) (g x) []) → (xs : List X) → flat_map f xs ≡ flat_map g (filter p xs)
flat_map-filter f g p h [] = refl
flat_map-filter f g p h (x ∷ xs) = ap₂ (λ a b. a ++ b) (h x) (flat_map-filter f g p h xs) ∙ at (p x)
  where
    at : (b : Bool) → cond b (g x) [] ++ flat_map g (filter p xs) ≡ flat_map g (cond b (x ∷ filter p xs) (filter p xs))
    at true = refl
    at false = refl

module _ (t : TableView) (s : DuesState) where
  abbrev coming : List ℕ
  coming = filter (may_come t s.dues) (letters t)

  -- the steps of a form that begins with a character
  steps-at : (f : CaseForm) (c : ℕ) (others : List ℕ) (above : List Rule) → f.reads ≡ c ∷ others → f.above ≡ above
      → steps_of t s f ≡ cond (may_come t s.dues c) (next_step t s (letter_at t s.before s.dues above c) f.number f.run others f.after f.cells f.next) []
  steps-at f c others above reads is =
      ap₂ (λ x a. step_if t s f (gathered (map (carry t x) s.dues ++ (need f.after ∷ need f.next ∷ flat_map (bars_to t s.before f.run x) a)))) reads is
      ∙ at (may_come t s.dues c) refl
    where
      same-step : (o : Option (List Due)) → step_if t s f o ≡ step_if t s (letter_form (letter_at t s.before s.dues above c) f.number f.run f.next others f.after f.cells) o
      same-step None = refl
      same-step (Some dues) =
          ap (λ x. step_of t s (record { number = f.number; reads = x; run = f.run; next = f.next; after = f.after; cells = f.cells; above = f.above }) dues ∷ []) reads

      at : (b : Bool) → may_come t s.dues c ≡ b
          → step_if t s f (gathered (map (carry t (c ∷ others)) s.dues ++ (need f.after ∷ need f.next ∷ flat_map (bars_to t s.before f.run (c ∷ others)) above)))
          ≡ cond b (next_step t s (letter_at t s.before s.dues above c) f.number f.run others f.after f.cells f.next) []
      at true e = ap (step_if t s f) (same-dues t s.before f.run c others s.dues f.next f.after above e) ∙ same-step (gathered (left_by t s.before (letter_at t s.before s.dues above c) f.run f.next others f.after))
      at false e = ap (step_if t s f) (none-gathered t c others s.dues (need f.after ∷ need f.next ∷ flat_map (bars_to t s.before f.run (c ∷ others)) above) e)

  empty : (b : Bool) → [] ≡ cond b (let x : List (Step DuesState) = [] in x) []
  empty true = refl
  empty false = refl

  -- the steps of a form with what must follow it, if it can be
  form_if-at : (form : Cond → CaseForm) (b : Bool) (g : Cond → List (Step DuesState)) → ((next : Cond) → steps_of t s (form next) ≡ cond b (g next) []) → (o : Option Cond)
      → flat_map (steps_of t s) (form_if form o) ≡ cond b (option_map_or g o []) []
  form_if-at form b g each None = empty b
  form_if-at form b g each (Some next) = append-nil (steps_of t s (form next)) ∙ each next

  -- ---- The steps of one rule

  forms-at : (above : List Rule) (r : Rule) (run : Bool) (c : ℕ) (others : List ℕ)
      → flat_map (steps_of t s) (rule_forms t s.before above r run (c ∷ others))
      ≡ cond (may_come t s.dues c) (letter_step t s (letter_at t s.before s.dues above c) (length above) run others (after_of r.place s.before) r.cells) []
  forms-at above r run c others =
      form_if-at (rule_form s.before above r run (c ∷ others)) (may_come t s.dues c)
      (next_step t s (letter_at t s.before s.dues above c) (length above) run others (after_of r.place s.before) r.cells)
      (λ next. steps-at (rule_form s.before above r run (c ∷ others) next) c others above refl refl) (further t s.before run (c ∷ others))

  cased-at : (above : List Rule) (r : Rule) (others : List ℕ) (c : ℕ)
      → flat_map (steps_of t s) (cased t s.before above r others c)
      ≡ cond (may_come t s.dues c) (cased_steps t s (letter_at t s.before s.dues above c) (length above) others (after_of r.place s.before) r.cells) []
  cased-at above r others c =
      flat_map-append (steps_of t s) (flat_map (λ chosen. rule_forms t s.before above r true (c ∷ chosen)) (choices t others)) (rule_forms t s.before above r false (c ∷ others))
      ∙ ap₂ (λ a b. a ++ b)
      (flat_map-flat_map (steps_of t s) (λ chosen. rule_forms t s.before above r true (c ∷ chosen)) (choices t others)
      ∙ flat_map-same (λ chosen. flat_map (steps_of t s) (rule_forms t s.before above r true (c ∷ chosen)))
      (λ chosen. cond (may_come t s.dues c) (caps_run_step t s (letter_at t s.before s.dues above c) (length above) (after_of r.place s.before) r.cells chosen) [])
      (λ chosen. forms-at above r true c chosen) (choices t others))
      (forms-at above r false c others)
      ∙ at (may_come t s.dues c)
    where
      at : (b : Bool) → flat_map (λ chosen. cond b (caps_run_step t s (letter_at t s.before s.dues above c) (length above) (after_of r.place s.before) r.cells chosen) []) (choices t others)
          ++ cond b (letter_step t s (letter_at t s.before s.dues above c) (length above) false others (after_of r.place s.before) r.cells) []
          ≡ cond b (cased_steps t s (letter_at t s.before s.dues above c) (length above) others (after_of r.place s.before) r.cells) []
      at true = refl
      at false = append-nil (flat_map (λ (chosen : List ℕ). let x : List (Step DuesState) = [] in x) (choices t others)) ∙ flat_map-none (λ (chosen : List ℕ). let x : List (Step DuesState) = [] in x) (λ chosen. refl) (choices t others)

  -- each once
  once-if : (b : Bool) (steps : List (Step DuesState)) → with_steps [] (cond b steps []) ≡ cond b (with_steps [] steps) []
  once-if true steps = refl
  once-if false steps = refl

  rule-at : (above : List Rule) (r : Rule) (c : ℕ) → holds (before_of r.place) s.before ≡ true
      → group_steps t s (cased_if t s.before above r r.chars c) ≡ cond (may_come t s.dues c) (rule_step t s (length above) r (letter_at t s.before s.dues above c)) []
  rule-at above r c before_holds =
      chars r.chars
      ∙ ap (λ h. cond (may_come t s.dues c) (cond (h && begins_with (fold_of t c) r.chars) (with_steps [] (cased_steps t s (letter_at t s.before s.dues above c) (length above) (drop 1 r.chars) (after_of r.place s.before) r.cells)) []) []) (sym before_holds)
    where
      first_is : (others : List ℕ) (b : Bool)
          → group_steps t s (cond b (cased t s.before above r others c) [])
          ≡ cond (may_come t s.dues c) (cond b (with_steps [] (cased_steps t s (letter_at t s.before s.dues above c) (length above) others (after_of r.place s.before) r.cells)) []) []
      first_is others true =
          ap (with_steps []) (cased-at above r others c)
          ∙ once-if (may_come t s.dues c) (cased_steps t s (letter_at t s.before s.dues above c) (length above) others (after_of r.place s.before) r.cells)
      first_is others false = empty (may_come t s.dues c)

      chars : (l : List ℕ) → group_steps t s (cased_if t s.before above r l c)
          ≡ cond (may_come t s.dues c) (cond (begins_with (fold_of t c) l) (with_steps [] (cased_steps t s (letter_at t s.before s.dues above c) (length above) (drop 1 l) (after_of r.place s.before) r.cells)) []) []
      chars [] = empty (may_come t s.dues c)
      chars (first ∷ others) = first_is others (nat_eq first (fold_of t c))

  rule-found : (above : List Rule) (r : Rule) → flat_map (group_steps t s) (groups_of t s.before above r) ≡ flat_map (rule_step t s (length above) r) (map (letter_at t s.before s.dues above) coming)
  rule-found above r = at (holds (before_of r.place) s.before) refl ∙ sym (flat_map-map (rule_step t s (length above) r) (letter_at t s.before s.dues above) coming)
    where
      at : (b : Bool) → holds (before_of r.place) s.before ≡ b
          → flat_map (group_steps t s) (cond b (map (cased_if t s.before above r r.chars) (letters t)) []) ≡ flat_map (λ c. rule_step t s (length above) r (letter_at t s.before s.dues above c)) coming
      at true e =
          flat_map-map (group_steps t s) (cased_if t s.before above r r.chars) (letters t)
          ∙ flat_map-filter (λ c. group_steps t s (cased_if t s.before above r r.chars c)) (λ c. rule_step t s (length above) r (letter_at t s.before s.dues above c)) (may_come t s.dues) (λ c. rule-at above r c e) (letters t)
      at false e =
          sym (flat_map-none (λ c. rule_step t s (length above) r (letter_at t s.before s.dues above c))
          (λ c. ap (λ h. cond (h && begins_with (fold_of t c) r.chars) (with_steps [] (cased_steps t s (letter_at t s.before s.dues above c) (length above) (drop 1 r.chars) (after_of r.place s.before) r.cells)) []) e) coming)

  -- ---- All steps

  own-forms-at : (c : ℕ) (run : Bool)
      → flat_map (steps_of t s) (form_if (own_form t c run) (further t s.before run (c ∷ [])))
      ≡ cond (may_come t s.dues c) (letter_step t s (letter_at t s.before s.dues t.rules c) (own t (c ∷ [])).number run [] Any (own t (c ∷ [])).cells) []
  own-forms-at c run =
      form_if-at (own_form t c run) (may_come t s.dues c) (next_step t s (letter_at t s.before s.dues t.rules c) (own t (c ∷ [])).number run [] Any (own t (c ∷ [])).cells)
      (λ next. steps-at (own_form t c run next) c [] t.rules refl refl) (further t s.before run (c ∷ []))

  own-at : (c : ℕ) → group_steps t s (own_forms t s.before c) ≡ cond (may_come t s.dues c) (own_step t s (letter_at t s.before s.dues t.rules c)) []
  own-at c =
      ap (with_steps [])
      (flat_map-append (steps_of t s) (form_if (own_form t c true) (further t s.before true (c ∷ []))) (form_if (own_form t c false) (further t s.before false (c ∷ [])))
      ∙ ap₂ (λ a b. a ++ b) (own-forms-at c true) (own-forms-at c false)
      ∙ both (may_come t s.dues c) (step-for true) (step-for false))
      ∙ once-if (may_come t s.dues c) (cased_steps t s (letter_at t s.before s.dues t.rules c) (own t (c ∷ [])).number [] Any (own t (c ∷ [])).cells)
    where
      step-for : Bool → List (Step DuesState)
      step-for run = letter_step t s (letter_at t s.before s.dues t.rules c) (own t (c ∷ [])).number run [] Any (own t (c ∷ [])).cells

      both : (b : Bool) (xs ys : List (Step DuesState)) → cond b xs [] ++ cond b ys [] ≡ cond b ((xs ++ []) ++ ys) []
      both true xs ys = ap (λ l. l ++ ys) (sym (append-nil xs))
      both false xs ys = refl

  own-found : flat_map (group_steps t s) (map (own_forms t s.before) (letters t)) ≡ flat_map (own_step t s) (map (letter_at t s.before s.dues t.rules) coming)
  own-found =
      flat_map-map (group_steps t s) (own_forms t s.before) (letters t)
      ∙ flat_map-filter (λ c. group_steps t s (own_forms t s.before c)) (λ c. own_step t s (letter_at t s.before s.dues t.rules c)) (may_come t s.dues) own-at (letters t)
      ∙ sym (flat_map-map (own_step t s) (letter_at t s.before s.dues t.rules) coming)

  found-from : (above rules : List Rule)
      → flat_map (group_steps t s) (groups_from t s.before above rules) ++ flat_map (own_step t s) (map (letter_at t s.before s.dues (above ++ rules)) coming)
      ≡ steps_found t s (length above) rules (map (letter_at t s.before s.dues above) coming)
  found-from above [] = ap (λ a. flat_map (own_step t s) (map (letter_at t s.before s.dues a) coming)) (append-nil above)
  found-from above (r ∷ rules) =
      let own = flat_map (own_step t s) (map (letter_at t s.before s.dues (above ++ r ∷ rules)) coming) in
      let last = flat_map (group_steps t s) (groups_from t s.before (above ++ r ∷ []) rules) in
      ap (λ l. l ++ own) (flat_map-append (group_steps t s) (groups_of t s.before above r) (groups_from t s.before (above ++ r ∷ []) rules))
      ∙ append_assoc (flat_map (group_steps t s) (groups_of t s.before above r)) last own
      ∙ ap (λ l. l ++ (last ++ own)) (rule-found above r)
      ∙ ap (λ l. flat_map (rule_step t s (length above) r) (map (letter_at t s.before s.dues above) coming) ++ l)
      (ap (λ a. last ++ flat_map (own_step t s) (map (letter_at t s.before s.dues a) coming)) (sym (append_assoc above (r ∷ []) rules))
      ∙ found-from (above ++ r ∷ []) rules
      ∙ ap₂ (λ n l. steps_found t s n rules l) (length-append above (r ∷ [])) (sym (letters-more t s.before s.dues above r coming)))

  pub all-found : dues_steps t s ≡ steps_found t s 0 t.rules (new_letters t s.dues)
  unfolding dues_steps
  all-found =
      flat_map-append (group_steps t s) (groups_from t s.before [] t.rules) (map (own_forms t s.before) (letters t))
      ∙ ap (λ l. flat_map (group_steps t s) (groups_from t s.before [] t.rules) ++ l) own-found
      ∙ found-from [] t.rules

-- ---- The characters that may come

one-letter : {X Y : Type 0} (f : X → Y) (p : X → Bool) (x : X) → map f (filter p (x ∷ [])) ≡ cond (p x) (f x ∷ []) []
one-letter f p x = at (p x)
  where
    at : (b : Bool) → map f (cond b (x ∷ []) []) ≡ cond b (f x ∷ []) []
    at true = refl
    at false = refl

pub passing-more : {X Y : Type 0} (f : X → Y) (p : X → Bool) (xs : List X) (n : ℕ) (x : X) → slice_get xs n ≡ Some x
    → map f (filter p (take (n + 1) xs)) ≡ map f (filter p (take n xs)) ++ cond (p x) (f x ∷ []) []
passing-more f p [] n x h = cc
passing-more f p (y ∷ xs) zero x h = (let same : y ≡ x = cc in ap (λ z. map f (filter p (z ∷ []))) same ∙ one-letter f p x)
passing-more f p (y ∷ xs) (suc n) x h =
    ap (λ k. map f (filter p (take k (y ∷ xs)))) (let e : suc n + 1 ≡ suc (n + 1) = omega arith in e)
    ∙ at (p y) (passing-more f p xs n x h)
  where
    at : (b : Bool) → map f (filter p (take (n + 1) xs)) ≡ map f (filter p (take n xs)) ++ cond (p x) (f x ∷ []) []
        → map f (cond b (y ∷ filter p (take (n + 1) xs)) (filter p (take (n + 1) xs))) ≡ map f (cond b (y ∷ filter p (take n xs)) (filter p (take n xs))) ++ cond (p x) (f x ∷ []) []
    at true e = ap (λ l. f y ∷ l) e
    at false e = e

pub passing-next : {X Y : Type 0} (f : X → Y) (p : X → Bool) (xs : List X) (n : ℕ) (x : X) (now new : List Y) → slice_get xs n ≡ Some x → now ≡ map f (filter p (take n xs))
    → new ≡ now ++ cond (p x) (f x ∷ []) [] → new ≡ map f (filter p (take (n + 1) xs))
passing-next f p xs n x now new h e k = k ∙ ap (λ l. l ++ cond (p x) (f x ∷ []) []) e ∙ sym (passing-more f p xs n x h)

pub letters-count : (es : List (ℕ × Info)) → length (keys_of es) ≡ length es
letters-count [] = refl
letters-count (e ∷ es) = ap suc (letters-count es)

pub letters-all : (t : TableView) (n : ℕ) → length t.characters ≤ n → take n (letters t) ≡ letters t
letters-all t n h = take_all n (letters t) (let e = letters-count t.characters in omega (arith, e, h))

pub passing-all : (t : TableView) (dues : List Due) (n : ℕ) → length t.characters ≤ n → map (new_letter t dues) (filter (may_come t dues) (take n (letters t))) ≡ new_letters t dues
passing-all t dues n h = ap (λ l. map (new_letter t dues) (filter (may_come t dues) l)) (letters-all t n h)
