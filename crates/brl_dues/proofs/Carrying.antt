-- What is carried past a step's characters holds of a rest exactly where the due holds of the
-- characters and the rest.
use Rattle.std.proofs.Common.{◌≡◌, ℕ, zero, suc, Bool, true, false, not, ◌&&◌, List, [], ◌∷◌, ◌++◌, Option, Some, None, length, is_some, map, refl, sym, ap, ap₂, ◌∙◌, nat_eq, cond}
use Rattle.std.specs.Prelude.{slice_get}
use Rattle.std.specs.List.{list_all, starts_with}
use Rattle.brl_rules.specs.declared.class.Class.{Class}
use Rattle.brl_rules.specs.declared.place.Cond.{Cond}
use Rattle.brl_rules.specs.declared.place.Cond.TheVariants.{Any, Meets, Avoids}
use Rattle.brl_rules.specs.declared.rule.Rule.{Rule}
use Rattle.brl_rules.specs.Choice.{folds_of_capitals, matches}
use Rattle.brl_rules.specs.Places.{holds, before_of, after_of, share}
use Rattle.brl_rules.specs.TableView.{TableView}
use Rattle.brl_rules.specs.Text.{classes_at, classes_of, fold_of, is_in_caps_run}
use Rattle.brl_dues.specs.declared.carry.Carried.{Carried}
use Rattle.brl_dues.specs.declared.carry.Carried.TheVariants.{Broken, Settled, Left}
use Rattle.brl_states.specs.declared.due.Due.{Due}
use Rattle.brl_states.specs.declared.due.Due.TheVariants.{Need, Bar}
use Rattle.brl_dues.specs.Capitals.{alike, choices, further, is_upper}
use Rattle.brl_dues.specs.Carry.{opposed, settled_if, carry_bar, carry_capitals, carry_need, carry_out, carry, need, bars_after, bars_past, bars_to}
use Rattle.brl_dues.specs.Due.{goes_on, due_met}
use Rattle.brl_dues.proofs.Choices.{and-true, choices-met, choices-on, list_all-map, caps_run_goes_on, starts-rest}
use Rattle.brl_dues.proofs.InCapsRun.{folds-more, folds-none, further-met, met_by}

-- a rest meets what is left
abbrev pub carried_met : TableView → List ℕ → Carried → Bool
carried_met t rest Broken = false
carried_met t rest Settled = true
carried_met t rest (Left due) = due_met t rest due

-- a rest goes on with the characters of a rule, in a run of capitals or out of one
abbrev goes_on_in : TableView → Bool → List ℕ → List ℕ → Cond → Bool
goes_on_in t run rest chars c = cond run (caps_run_goes_on t c rest chars) (goes_on t rest chars c)

-- a rule fits, in a run of capitals or out of one
abbrev pub fits_in : TableView → Class → Bool → List ℕ → Rule → Bool
fits_in t before run rest r = matches t run rest r.chars && holds (before_of r.place) before && holds (after_of r.place before) (classes_at t rest (length r.chars))

pub not_not : (b : Bool) → not (not b) ≡ b
not_not true = refl
not_not false = refl

module _ (t : TableView) (u : List ℕ) where
  opposed-met : (c : Cond) → carried_met t u (opposed c) ≡ not (holds c (classes_at t u 0))
  opposed-met Any = refl
  opposed-met (Meets s) = refl
  opposed-met (Avoids s) = sym (not_not (share (classes_at t u 0) s))

  settled-met : (b : Bool) → carried_met t u (settled_if b) ≡ b
  settled-met true = refl
  settled-met false = refl

  both-met : (b : Bool) (r : Carried) (f : Bool) → carried_met t u r ≡ not f → carried_met t u (cond b r Settled) ≡ not (b && f)
  both-met true r f h = h
  both-met false r f h = refl

  and-assoc : (a b c : Bool) → not (a && (b && c)) ≡ not ((a && b) && c)
  and-assoc true b c = refl
  and-assoc false b c = refl

  pub carry_bar-met : (past chars : List ℕ) (c : Cond) → carried_met t u (carry_bar t past chars c) ≡ not (goes_on t (past ++ u) chars c)
  carry_bar-met [] [] c = opposed-met c
  carry_bar-met [] (a ∷ chars) c = refl
  carry_bar-met (b ∷ past) [] c = settled-met (not (holds c (classes_of t b)))
  carry_bar-met (b ∷ past) (a ∷ chars) c =
      both-met (nat_eq a b) (carry_bar t past chars c) (goes_on t (past ++ u) chars c) (carry_bar-met past chars c)
      ∙ and-assoc (nat_eq a b) (starts_with nat_eq (past ++ u) chars) (holds c (classes_at t (past ++ u) (length chars)))

  carry_need-met : (past : List ℕ) (c : Cond) → carried_met t u (carry_need t past c) ≡ holds c (classes_at t (past ++ u) 0)
  carry_need-met [] c = refl
  carry_need-met (b ∷ past) c = settled-met (holds c (classes_of t b))

  pub carry-met : (past : List ℕ) (d : Due) → carried_met t u (carry t past d) ≡ due_met t (past ++ u) d
  carry-met past (Need c) = carry_need-met past c
  carry-met past (Bar [] c) = refl
  carry-met past (Bar (a ∷ chars) c) = carry_bar-met past (a ∷ chars) c

  pub need-met : (c : Cond) → carried_met t u (need c) ≡ holds c (classes_at t u 0)
  need-met Any = refl
  need-met (Meets s) = refl
  need-met (Avoids s) = refl

  -- ---- The bars of a rule that is ranked above

  -- the bars of choices of capitals
  barred-choices : (a : ℕ) (chars : List ℕ) (c : Cond) → list_all (carried_met t u) (map (λ text. Left (Bar text c)) (choices t (a ∷ chars))) ≡ not (caps_run_goes_on t c u (a ∷ chars))
  barred-choices a chars c =
      list_all-map (carried_met t u) (λ text. due_met t u (Bar text c)) (λ text. Left (Bar text c)) (λ text. refl) (choices t (a ∷ chars))
      ∙ choices-on t c a chars (choices-met t c chars) u (λ text. due_met t u (Bar text c)) (λ b text. refl)

  pub carry_capitals-met : (past chars : List ℕ) (c : Cond) → list_all (carried_met t u) (carry_capitals t past chars c) ≡ not (caps_run_goes_on t c (past ++ u) chars)
  carry_capitals-met [] [] c = and-true (carried_met t u (opposed c)) ∙ opposed-met c
  carry_capitals-met [] (a ∷ chars) c = barred-choices a chars c
  carry_capitals-met (b ∷ past) [] c = and-true (carried_met t u (settled_if (not (holds c (classes_of t b))))) ∙ settled-met (not (holds c (classes_of t b)))
  carry_capitals-met (b ∷ past) (a ∷ chars) c = at (is_upper t b) refl (carry_capitals-met past chars c)
    where
      goes : Bool
      goes = holds c (classes_at t (past ++ u) (length chars))

      by-fold : (f : Bool) → list_all (carried_met t u) (carry_capitals t past chars c) ≡ not (caps_run_goes_on t c (past ++ u) chars)
          → list_all (carried_met t u) (cond (true && f) (carry_capitals t past chars c) []) ≡ not ((f && starts_with nat_eq (folds_of_capitals t (past ++ u)) chars) && goes)
      by-fold true h = h
      by-fold false h = refl

      at : (k : Bool) → is_upper t b ≡ k → list_all (carried_met t u) (carry_capitals t past chars c) ≡ not (caps_run_goes_on t c (past ++ u) chars)
          → list_all (carried_met t u) (cond (is_upper t b && nat_eq a (fold_of t b)) (carry_capitals t past chars c) []) ≡ not (caps_run_goes_on t c (b ∷ (past ++ u)) (a ∷ chars))
      at true e h =
          ap (λ k. list_all (carried_met t u) (cond (k && nat_eq a (fold_of t b)) (carry_capitals t past chars c) [])) e ∙ by-fold (nat_eq a (fold_of t b)) h
          ∙ ap (λ w. not (starts_with nat_eq w (a ∷ chars) && goes)) (sym (folds-more t b (past ++ u) e))
      at false e h =
          ap (λ k. list_all (carried_met t u) (cond (k && nat_eq a (fold_of t b)) (carry_capitals t past chars c) [])) e
          ∙ ap (λ w. not (starts_with nat_eq w (a ∷ chars) && goes)) (sym (folds-none t b (past ++ u) e))

  -- a rule that has no form out of a run of capitals doesn't fit where the text isn't in one
  none-out : (before : Class) (b : ℕ) (past chars : List ℕ) → is_in_caps_run t before (b ∷ (past ++ u)) ≡ false → further t before false (b ∷ chars) ≡ None → starts_with nat_eq (past ++ u) chars ≡ false
  none-out before b past chars out none = at (starts_with nat_eq (past ++ u) chars) refl
    where
      at : (k : Bool) → starts_with nat_eq (past ++ u) chars ≡ k → k ≡ false
      at false h = refl
      at true h =
          let rest = starts-rest (past ++ u) chars h in
          let met : met_by (further t before false (b ∷ chars)) (classes_at t rest.0 0) ≡ alike false (is_in_caps_run t before (b ∷ (chars ++ rest.0))) =
          further-met t rest.0 before false b chars in
          let out_there : is_in_caps_run t before (b ∷ (chars ++ rest.0)) ≡ false = ap (λ l. is_in_caps_run t before (b ∷ l)) (sym rest.1) ∙ out in
          let no : false ≡ true = ap (λ o. met_by o (classes_at t rest.0 0)) (sym none) ∙ met ∙ ap (alike false) out_there in
          sym no

  carry_out-met : (before : Class) (b : ℕ) (past chars : List ℕ) (c : Cond) → is_in_caps_run t before (b ∷ (past ++ u)) ≡ false
      → list_all (carried_met t u) (carry_out t before b past chars c) ≡ not (goes_on t (past ++ u) chars c)
  carry_out-met before b past chars c out = at (further t before false (b ∷ chars)) refl
    where
      at : (o : Option Cond) → further t before false (b ∷ chars) ≡ o
          → list_all (carried_met t u) (cond (is_some o) (carry_bar t past chars c ∷ []) []) ≡ not (goes_on t (past ++ u) chars c)
      at (Some next) e = and-true (carried_met t u (carry_bar t past chars c)) ∙ carry_bar-met past chars c
      at None e = ap (λ k. not (k && holds c (classes_at t (past ++ u) (length chars)))) (sym (none-out before b past chars out e))

  bars_past-met : (before : Class) (run : Bool) (b : ℕ) (past chars : List ℕ) (c : Cond) → is_in_caps_run t before (b ∷ (past ++ u)) ≡ run
      → list_all (carried_met t u) (bars_past t before run b past chars c) ≡ not (goes_on_in t run (past ++ u) chars c)
  bars_past-met before true b past chars c is = carry_capitals-met past chars c
  bars_past-met before false b past chars c is = carry_out-met before b past chars c is

  first-met : (before : Class) (run : Bool) (b : ℕ) (h f : Bool) (past others : List ℕ) (after : Cond) → is_in_caps_run t before (b ∷ (past ++ u)) ≡ run
      → list_all (carried_met t u) (cond h (cond f (bars_past t before run b past others after) []) []) ≡ not (h && (f && goes_on_in t run (past ++ u) others after))
  first-met before run b true true past others after is = bars_past-met before run b past others after is
  first-met before run b true false past others after is = refl
  first-met before run b false f past others after is = refl

  -- how the parts of fitting are joined
  joined : (m h s a : Bool) → (h && (m && (s && a))) ≡ (((m && s) && h) && a)
  joined true true true a = refl
  joined true true false a = refl
  joined true false true a = refl
  joined true false false a = refl
  joined false true s a = refl
  joined false false s a = refl

  -- no rule without characters fits
  none : (h a : Bool) → list_all (carried_met t u) (cond h [] []) ≡ not ((false && h) && a)
  none true a = refl
  none false a = refl

  at-chars : (before : Class) (run : Bool) (c : ℕ) (past chars : List ℕ) (h : Bool) (after : Cond) → is_in_caps_run t before (c ∷ (past ++ u)) ≡ run
      → list_all (carried_met t u) (cond h (bars_after t before run c past chars after) [])
      ≡ not ((matches t run (c ∷ (past ++ u)) chars && h) && holds after (classes_at t (c ∷ (past ++ u)) (length chars)))
  at-chars before run c past [] h after is = none h (holds after (classes_at t (c ∷ (past ++ u)) 0))
  at-chars before true c past (first ∷ others) h after is =
      first-met before true c h (nat_eq first (fold_of t c)) past others after is
      ∙ ap not (joined (nat_eq first (fold_of t c)) h (starts_with nat_eq (folds_of_capitals t (past ++ u)) others) (holds after (classes_at t (past ++ u) (length others))))
  at-chars before false c past (first ∷ others) h after is =
      first-met before false c h (nat_eq first (fold_of t c)) past others after is
      ∙ ap not (joined (nat_eq first (fold_of t c)) h (starts_with nat_eq (past ++ u) others) (holds after (classes_at t (past ++ u) (length others))))

  pub bars_to-met : (before : Class) (run : Bool) (c : ℕ) (past : List ℕ) → is_in_caps_run t before (c ∷ (past ++ u)) ≡ run → (r : Rule)
      → list_all (carried_met t u) (bars_to t before run (c ∷ past) r) ≡ not (fits_in t before run (c ∷ (past ++ u)) r)
  bars_to-met before run c past is r = at-chars before run c past r.chars (holds (before_of r.place) before) (after_of r.place before) is

-- ---- A bar that differs from what is read

pub settled-at : (t : TableView) (past chars : List ℕ) (c : Cond) (i a b : ℕ) → Some b ≡ slice_get chars i → Some a ≡ slice_get past i → nat_eq b a ≡ false → carry_bar t past chars c ≡ Settled
settled-at t [] chars c i a b here there h = cc
settled-at t (x ∷ past) [] c i a b here there h = cc
settled-at t (x ∷ past) (y ∷ chars) c zero a b here there h =
    let first : y ≡ b = cc in
    let second : x ≡ a = cc in
    ap (λ d. cond d (carry_bar t past chars c) Settled) (ap₂ nat_eq first second ∙ h)
settled-at t (x ∷ past) (y ∷ chars) c (suc i) a b here there h = at (nat_eq y x) (settled-at t past chars c i a b here there h)
  where
    at : (d : Bool) → carry_bar t past chars c ≡ Settled → cond d (carry_bar t past chars c) Settled ≡ Settled
    at true e = e
    at false e = refl
