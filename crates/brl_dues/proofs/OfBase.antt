-- The steps of a state are those of its base, with what the bars of the state leave past them.
use Rattle.std.proofs.Common.{◌≡◌, ◌≢◌, ℕ, Bool, true, false, not, ◌&&◌, ◌||◌, List, [], ◌∷◌, ◌++◌, Option, Some, None, map, filter, refl, sym, ap, ap₂, ◌∙◌, subst, cond, inl, inr}
use Rattle.std.proofs.lemmas.Grind.{flat_map-append}
use Rattle.std.proofs.lemmas.List.Folds.{list_all-append}
use Rattle.std.specs.List.{flat_map, list_all, list_any}
use Rattle.std.specs.Prelude.{option_map}
use Rattle.brl_pairs.specs.Runs.{IsListed}
use Rattle.brl_pairs.specs.declared.step.Step.{Step}
use Rattle.brl_rules.specs.Places.{holds}
use Rattle.brl_rules.specs.TableView.{TableView}
use Rattle.brl_rules.specs.Text.{classes_of}
use Rattle.brl_rules.proofs.Facts.{and-false}
use Rattle.brl_dues.specs.declared.carry.Carried.{Carried}
use Rattle.brl_states.specs.contracts.due.DuePartialEq.TheImpl.{eq-value}
use Rattle.brl_states.specs.declared.due.Due.{Due}
use Rattle.brl_states.specs.declared.due.Due.TheVariants.{Need, Bar}
use Rattle.brl_states.specs.declared.dues_state.DuesState.{DuesState}
use Rattle.brl_states.specs.Order.{in_order}
use Rattle.brl_states.specs.SameDues.{same_dues}
use Rattle.brl_dues.specs.Carry.{carry, gathered, is_whole, left_of, lefts, settled_if}
use Rattle.brl_dues.specs.CaseForm.{CaseForm, groups}
use Rattle.brl_dues.specs.Contexts.{IsPast, bars, base_of, gate_of, is_bar, lets_through, more, new_to, opens, owing_if, step_past, steps_past}
use Rattle.brl_dues.specs.Steps.{dues_steps, group_steps, owed, step_if, step_of, steps_of, with_steps}
use Rattle.brl_dues.proofs.Alike.{AreAlike, same-step}
use Rattle.brl_dues.proofs.Asked.{alike-asked}
use Rattle.brl_dues.proofs.Finding.{flat_map-flat_map}
use Rattle.brl_dues.proofs.Firsts.{each-once, made-once}
use Rattle.brl_dues.proofs.Forms.{forms-IsForm, from-filter, into-filter}
use Rattle.brl_dues.proofs.Once as once
use Rattle.brl_dues.proofs.Repeats.{from-with_steps, in-with_steps, with_steps-apart}
use Rattle.brl_dues.proofs.SameForms.{same-groups, same-owed}
use Rattle.brl_dues.proofs.Taking.{form-ReadsSome}
use Rattle.brl_states.proofs.DueOrder.{from-in_order, in-in_order, in_order-sorted, is-in_order}
use Rattle.brl_states.proofs.Kept.{Keeps}
use Rattle.brl_states.proofs.Pairwise.{Pairwise, at-Pairwise}
use Rattle.brl_pairs.proofs.Listing.{IsIn, at-in, from-flat_map, in-append, in-at, in-flat_map, in-left, in-right}

-- ---- Needs and bars

-- what is left past a character and others: the needs refuse it or are settled, so what the bars
-- leave is all
module _ (t : TableView) (c : ℕ) (others : List ℕ) where
  abbrev carried : List Due → List Carried
  carried dues = map (carry t (c ∷ others)) dues

  abbrev let_in : List Due → Bool
  let_in dues = list_all (lets_through (classes_of t c)) dues

  abbrev bars_whole : List Due → Bool
  bars_whole dues = list_all is_whole (carried (filter is_bar dues))

  wholes : (dues : List Due) → list_all is_whole (carried dues) ≡ (let_in dues && bars_whole dues)
  wholes [] = refl
  wholes (Need next ∷ dues) = at (holds next (classes_of t c)) (wholes dues)
    where
      at : (b : Bool) → list_all is_whole (carried dues) ≡ (let_in dues && bars_whole dues) → (is_whole (settled_if b) && list_all is_whole (carried dues)) ≡ ((b && let_in dues) && bars_whole dues)
      at true e = e
      at false e = refl
  wholes (Bar chars next ∷ dues) = at (is_whole (carry t (c ∷ others) (Bar chars next))) (let_in dues) (wholes dues)
    where
      at : (w o : Bool) → list_all is_whole (carried dues) ≡ (o && bars_whole dues) → (w && list_all is_whole (carried dues)) ≡ (o && (w && bars_whole dues))
      at true o e = e
      at false o e = sym (and-false o)

  lefts-are : (dues : List Due) → lefts (carried dues) ≡ lefts (carried (filter is_bar dues))
  lefts-are [] = refl
  lefts-are (Need next ∷ dues) = at (holds next (classes_of t c)) (lefts-are dues)
    where
      at : (b : Bool) → lefts (carried dues) ≡ lefts (carried (filter is_bar dues)) → left_of (settled_if b) ++ lefts (carried dues) ≡ lefts (carried (filter is_bar dues))
      at true e = e
      at false e = e
  lefts-are (Bar chars next ∷ dues) = ap (λ l. left_of (carry t (c ∷ others) (Bar chars next)) ++ l) (lefts-are dues)

  -- old dues, and what a step owes
  gathered-past : (dues : List Due) (ys : List Carried)
      → gathered (carried dues ++ ys) ≡ cond ((let_in dues && bars_whole dues) && list_all is_whole ys) (Some (in_order (lefts (carried (filter is_bar dues)) ++ lefts ys))) None
  gathered-past dues ys =
      ap₂ (λ b (l : List Due). cond b (Some (in_order l)) None)
      (list_all-append is_whole (carried dues) ys ∙ ap (λ b. b && list_all is_whole ys) (wholes dues))
      (flat_map-append left_of (carried dues) ys ∙ ap (λ l. l ++ lefts ys) (lefts-are dues))

-- ---- More dues

among : (d : Due) (dues : List Due) → list_any (eq-value.it d) dues ≡ true → IsIn d dues
among d [] h = cc
among d (e ∷ dues) h = at (eq-value.it d e) refl h (among d dues)
  where
    at : (b : Bool) → eq-value.it d e ≡ b → (b || list_any (eq-value.it d) dues) ≡ true → (list_any (eq-value.it d) dues ≡ true → IsIn d dues) → IsIn d (e ∷ dues)
    at true is k more = inl (same_dues d e is)
    at false is k more = inr (more k)

-- dues that are new to some others, with these: all of both
pub merged : (owed left : List Due) → in_order (left ++ owed) ≡ in_order (in_order owed ++ new_to (in_order owed) left)
merged owed left =
    is-in_order (in_order (left ++ owed)) (in_order owed ++ new_to (in_order owed) left) (in_order-sorted (left ++ owed))
    (λ d i. elim (in-append d left owed (from-in_order d (left ++ owed) i)) [
      | inl k ↦ old-or-new d k (list_any (eq-value.it d) (in_order owed)) refl
      | inr k ↦ in-left d (in_order owed) (new_to (in_order owed) left) (in-in_order d owed k)
    ])
    (λ d i. in-in_order d (left ++ owed) (elim (in-append d (in_order owed) (new_to (in_order owed) left) i) [
      | inl k ↦ in-right d left owed (from-in_order d owed k)
      | inr k ↦ in-left d left owed (from-filter (λ due. not (list_any (eq-value.it due) (in_order owed))) d left k).0
    ]))
  where
    old-or-new : (d : Due) → IsIn d left → (b : Bool) → list_any (eq-value.it d) (in_order owed) ≡ b → IsIn d (in_order owed ++ new_to (in_order owed) left)
    old-or-new d k true e = in-left d (in_order owed) (new_to (in_order owed) left) (among d (in_order owed) e)
    old-or-new d k false e =
        in-right d (in_order owed) (new_to (in_order owed) left) (into-filter (λ due. not (list_any (eq-value.it due) (in_order owed))) d left k (ap not e))

-- ---- One step

module _ (t : TableView) (s : DuesState) where
  abbrev base : DuesState
  base = base_of t s

  alike : AreAlike t s base
  alike = alike-asked t s []

  -- the step of a form that reads a character and others
  form-past : (f : CaseForm) (c : ℕ) (others : List ℕ) → f.reads ≡ c ∷ others → steps_of t s f ≡ flat_map (step_past t s) (steps_of t base f)
  form-past f c others reads = subst (λ (g : CaseForm). steps_of t s g ≡ flat_map (step_past t s) (steps_of t base g)) (sym is) past
    where
      g : CaseForm
      g = record f { reads = c ∷ others }

      is : f ≡ g
      is = λ i. record f { reads = reads i }

      ys : List Carried
      ys = owed t base.before g

      left : List Due
      left = lefts (carried t c others (bars s))

      whole : (o w : Bool)
          → step_if t s g (cond ((o && w) && true) (Some (in_order (left ++ lefts ys))) None)
          ≡ cond o (owing_if (step_of t base g (in_order (lefts ys))) (option_map (new_to (in_order (lefts ys))) (cond w (Some left) None))) [] ++ []
      whole true true =
          ap (λ (x : Step DuesState). x ∷ [])
          (same-step t s base alike c others g (in_order (left ++ lefts ys)) refl ∙ ap (step_of t base g) (merged (lefts ys) left))
      whole true false = refl
      whole false w = refl

      at : (o : Bool)
          → step_if t s g (cond ((opens s (classes_of t c) && bars_whole t c others s.dues) && o) (Some (in_order (left ++ lefts ys))) None)
          ≡ flat_map (step_past t s) (step_if t base g (cond o (Some (in_order (lefts ys))) None))
      at true = whole (opens s (classes_of t c)) (bars_whole t c others s.dues)
      at false =
          ap (λ b. step_if t s g (cond b (Some (in_order (left ++ lefts ys))) None)) (and-false (opens s (classes_of t c) && bars_whole t c others s.dues))

      past : steps_of t s g ≡ flat_map (step_past t s) (steps_of t base g)
      past =
          ap (λ l. step_if t s g (gathered (carried t c others s.dues ++ l))) (same-owed t s base alike g)
          ∙ ap (step_if t s g) (gathered-past t c others s.dues ys)
          ∙ at (list_all is_whole ys)

-- ---- All steps

flat_map-in : {X Y : Type 0} (f g : X → List Y) (xs : List X) → ((x : X) → IsIn x xs → f x ≡ g x) → flat_map f xs ≡ flat_map g xs
flat_map-in f g [] h = refl
flat_map-in f g (x ∷ xs) h = ap₂ (λ a b. a ++ b) (h x (inl refl)) (flat_map-in f g xs (λ y i. h y (inr i)))

-- no two steps of a state are the same
steps-differ : (t : TableView) → Keeps t → (s : DuesState) → Pairwise (λ a b. a ≢ b) (dues_steps t s)
steps-differ t keeps s = at-Pairwise (λ a b. a ≢ b) (dues_steps t s) (λ i j x y less p q. (let k = once.in_order t keeps s i j x y less p q in k.differ))

pub steps-past : (t : TableView) → Keeps t → (s : DuesState) → dues_steps t s ≡ steps_past t s
unfolding dues_steps
steps-past t keeps s =
    let z = base_of t s in
    let past = step_past t s in
    let all = groups t z.before in
    let made = λ (group : List CaseForm). flat_map past (flat_map (steps_of t z) group) in
    sym (with_steps-apart [] (dues_steps t s) (steps-differ t keeps s))
    ∙ ap (λ (l : List (List CaseForm)). with_steps [] (flat_map (group_steps t s) l)) (same-groups t s z (alike-asked t s []))
    ∙ each-once (flat_map (steps_of t s)) [] all
    ∙ ap (with_steps [])
    (flat_map-in (flat_map (steps_of t s)) made all
    (λ group i.
    flat_map-in (steps_of t s) (λ f. flat_map past (steps_of t z f)) group
    (λ f j. (let r = form-ReadsSome t z.before f (forms-IsForm t z.before group f i j) in form-past t s f r.character r.others r.reads))
    ∙ sym (flat_map-flat_map past (steps_of t z) group)))
    ∙ sym (each-once made [] all)
    ∙ ap (λ (f : List CaseForm → List (Step DuesState)). with_steps [] (flat_map f all)) (λ i. λ group. sym (made-once past (flat_map (steps_of t z) group)) i)
    ∙ each-once (λ group. flat_map past (group_steps t z group)) [] all
    ∙ ap (with_steps []) (sym (flat_map-flat_map past (group_steps t z) all))

-- ---- Each by itself

only-past : (g : Bool) (x z : Step DuesState) (o : Option (List Due)) → IsIn z (cond g (owing_if x o) []) → cond g (owing_if x o) [] ≡ z ∷ []
only-past true x z None i = absurd i
only-past true x z (Some dues) (inl e) = ap (λ (y : Step DuesState). y ∷ []) (sym e)
only-past true x z (Some dues) (inr none) = absurd none
only-past false x z o i = absurd i

pub from-base : (t : TableView) → Keeps t → (s : DuesState) (z : Step DuesState) → IsListed (dues_steps t s) z → IsPast t s z
from-base t keeps s z listed =
    let steps = dues_steps t (base_of t s) in
    let i = subst (IsIn z) (steps-past t keeps s) (at-in z (dues_steps t s) listed.0 listed.1) in
    let m = from-flat_map (step_past t s) z steps (elim (from-with_steps [] (flat_map (step_past t s) steps) z i) [ inl none ↦ absurd none | inr k ↦ k ]) in
    record { from = m.0; listed = in-at m.0 steps m.1; becomes = only-past (opens s (gate_of t m.0)) m.0 z (more t (bars s) m.0) m.2 }

pub into-base : (t : TableView) → Keeps t → (s : DuesState) (z : Step DuesState) → IsPast t s z → IsListed (dues_steps t s) z
into-base t keeps s z h =
    let steps = dues_steps t (base_of t s) in
    let i = at-in h.from steps h.listed.0 h.listed.1 in
    let there = in-flat_map (step_past t s) h.from z steps i (subst (IsIn z) (sym h.becomes) (inl refl)) in
    in-at z (dues_steps t s) (subst (IsIn z) (sym (steps-past t keeps s)) (in-with_steps [] (flat_map (step_past t s) steps) z there))
