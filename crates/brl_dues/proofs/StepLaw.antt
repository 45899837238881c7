-- The law of one step: the dues after it hold of a rest exactly where the rest meets what the form
-- asks for, no rule ranked above fits at the start of what the form reads and the rest, and these
-- meet the state's dues.
use Rattle.std.proofs.Common.{◌≡◌, ℕ, Bool, true, false, not, ◌&&◌, List, [], ◌∷◌, ◌++◌, Option, Some, None, refl, sym, ap, ap₂, ◌∙◌, cond, map}
use Rattle.std.specs.List.{flat_map, list_all}
use Rattle.std.specs.declared.cmp.Ordering.{Ordering}
use Rattle.std.specs.declared.cmp.Ordering.TheVariants.{Less, Equal, Greater}
use Rattle.std.proofs.lemmas.List.Folds.{list_all-append}
use Rattle.brl_rules.specs.declared.class.Class.{Class}
use Rattle.brl_rules.specs.declared.rule.Rule.{Rule}
use Rattle.brl_rules.specs.Choice.{fits}
use Rattle.brl_rules.specs.Places.{holds}
use Rattle.brl_rules.specs.TableView.{TableView}
use Rattle.brl_rules.specs.Text.{classes_at, is_in_caps_run}
use Rattle.brl_dues.specs.declared.carry.Carried.{Carried}
use Rattle.brl_dues.specs.declared.carry.Carried.TheVariants.{Broken, Settled, Left}
use Rattle.brl_states.specs.declared.due.Due.{Due}
use Rattle.brl_states.specs.declared.dues_state.DuesState.{DuesState}
use Rattle.brl_dues.specs.Capitals.{alike}
use Rattle.brl_dues.specs.Carry.{bars_to, carry, gathered, is_whole, lefts}
use Rattle.brl_dues.specs.Due.{due_met, dues_met}
use Rattle.brl_dues.specs.CaseForm.{CaseForm}
use Rattle.brl_states.specs.Order.{due_cmp, place, insert_due, in_order}
use Rattle.brl_dues.specs.Steps.{next_dues, owed}
use Rattle.brl_dues.proofs.Carrying.{bars_to-met, carried_met, carry-met, fits_in, need-met}
use Rattle.brl_dues.proofs.Choices.{list_all-flat_map, list_all-map}
use Rattle.brl_dues.proofs.InCapsRun.{alike-true}
use Rattle.brl_states.proofs.DueOrder.{due_tied}

and-swap : (a b c : Bool) → (a && (b && c)) ≡ (b && (a && c))
and-swap true b c = refl
and-swap false true c = refl
and-swap false false c = refl

and-twice : (a b : Bool) → (a && (a && b)) ≡ (a && b)
and-twice true b = refl
and-twice false b = refl

-- none of these rules fits
abbrev pub none_fits : TableView → Class → List ℕ → List Rule → Bool
none_fits t before rest rules = list_all (λ r. not (fits t before rest r)) rules

-- the same, in a run of capitals or out of one
abbrev none_fits_in : TableView → Class → Bool → List ℕ → List Rule → Bool
none_fits_in t before run rest rules = list_all (λ r. not (fits_in t before run rest r)) rules

abbrev pub option_met : TableView → List ℕ → Option (List Due) → Bool
option_met t rest None = false
option_met t rest (Some dues) = dues_met t rest dues

module _ (t : TableView) (u : List ℕ) where
  met : Due → Bool
  met d = due_met t u d

  place-met : (o : Ordering) (d e : Due) (ds r : List Due) → due_cmp d e ≡ o → dues_met t u r ≡ (due_met t u d && dues_met t u ds)
      → dues_met t u (place o d e ds r) ≡ (due_met t u d && (due_met t u e && dues_met t u ds))
  place-met Less d e ds r c h = refl
  place-met Equal d e ds r c h =
      let same : due_met t u e ≡ due_met t u d = ap (due_met t u) (sym (due_tied d e c)) in
      sym (and-twice (due_met t u e) (dues_met t u ds)) ∙ ap (λ b. b && (due_met t u e && dues_met t u ds)) same
  place-met Greater d e ds r c h = ap (λ b. due_met t u e && b) h ∙ and-swap (due_met t u e) (due_met t u d) (dues_met t u ds)

  insert_due-met : (d : Due) (ds : List Due) → dues_met t u (insert_due d ds) ≡ (due_met t u d && dues_met t u ds)
  insert_due-met d [] = refl
  insert_due-met d (e ∷ ds) = place-met (due_cmp d e) d e ds (insert_due d ds) refl (insert_due-met d ds)

  in_order-met : (ds : List Due) → dues_met t u (in_order ds) ≡ dues_met t u ds
  in_order-met [] = refl
  in_order-met (d ∷ ds) = insert_due-met d (in_order ds) ∙ ap (λ b. due_met t u d && b) (in_order-met ds)

  -- where nothing is broken, what is left is what has to be met
  lefts-met : (cs : List Carried) → (list_all is_whole cs && dues_met t u (lefts cs)) ≡ list_all (carried_met t u) cs
  lefts-met [] = refl
  lefts-met (Broken ∷ cs) = refl
  lefts-met (Settled ∷ cs) = lefts-met cs
  lefts-met (Left d ∷ cs) = and-swap (list_all is_whole cs) (due_met t u d) (dues_met t u (lefts cs)) ∙ ap (λ b. due_met t u d && b) (lefts-met cs)

  gathered-met : (cs : List Carried) → option_met t u (gathered cs) ≡ list_all (carried_met t u) cs
  gathered-met cs = at (list_all is_whole cs) (in_order (lefts cs)) (dues_met t u (lefts cs)) (in_order-met (lefts cs)) ∙ lefts-met cs
    where
      at : (b : Bool) (ds : List Due) (m : Bool) → dues_met t u ds ≡ m → option_met t u (cond b (Some ds) None) ≡ (b && m)
      at true ds m e = e
      at false ds m e = refl

  bars-met : (before : Class) (run : Bool) (c : ℕ) (past : List ℕ) → is_in_caps_run t before (c ∷ (past ++ u)) ≡ run → (above : List Rule)
      → list_all (carried_met t u) (flat_map (bars_to t before run (c ∷ past)) above) ≡ none_fits_in t before run (c ∷ (past ++ u)) above
  bars-met before run c past same above =
      list_all-flat_map (carried_met t u) (λ r. not (fits_in t before run (c ∷ (past ++ u)) r)) (bars_to t before run (c ∷ past)) (bars_to-met t u before run c past same) above

  -- what must follow, and the bars of the rules above
  next-met : (before : Class) (run : Bool) (c : ℕ) (past : List ℕ) (n : Bool) → n ≡ alike run (is_in_caps_run t before (c ∷ (past ++ u))) → (above : List Rule)
      → (n && list_all (carried_met t u) (flat_map (bars_to t before run (c ∷ past)) above)) ≡ (n && none_fits t before (c ∷ (past ++ u)) above)
  next-met before run c past false e above = refl
  next-met before run c past true e above =
      let same : is_in_caps_run t before (c ∷ (past ++ u)) ≡ run = alike-true run (is_in_caps_run t before (c ∷ (past ++ u))) (sym e) in
      bars-met before run c past same above ∙ ap (λ b. none_fits_in t before b (c ∷ (past ++ u)) above) (sym same)

  pub step-met : (s : DuesState) (f : CaseForm) (c : ℕ) (past : List ℕ) → f.reads ≡ c ∷ past → holds f.next (classes_at t u 0) ≡ alike f.run (is_in_caps_run t s.before (f.reads ++ u))
      → option_met t u (next_dues t s f)
      ≡ (dues_met t (f.reads ++ u) s.dues && (holds f.after (classes_at t u 0) && (holds f.next (classes_at t u 0) && none_fits t s.before (f.reads ++ u) f.above)))
  step-met s f c past e agrees =
      gathered-met (map (carry t f.reads) s.dues ++ owed t s.before f)
      ∙ list_all-append (carried_met t u) (map (carry t f.reads) s.dues) (owed t s.before f)
      ∙ ap₂ (λ a b. a && b)
      (list_all-map (carried_met t u) (due_met t (f.reads ++ u)) (carry t f.reads) (carry-met t u f.reads) s.dues)
      (ap₂ (λ a b. a && b) (need-met t u f.after)
      (ap (λ b. b && list_all (carried_met t u) (flat_map (bars_to t s.before f.run f.reads) f.above)) (need-met t u f.next)
      ∙ ap (λ x. holds f.next (classes_at t u 0) && list_all (carried_met t u) (flat_map (bars_to t s.before f.run x) f.above)) e
      ∙ next-met s.before f.run c past (holds f.next (classes_at t u 0)) (agrees ∙ ap (λ x. alike f.run (is_in_caps_run t s.before (x ++ u))) e) f.above
      ∙ ap (λ x. holds f.next (classes_at t u 0) && none_fits t s.before (x ++ u) f.above) (sym e)))
