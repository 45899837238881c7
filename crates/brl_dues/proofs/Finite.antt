-- The states of the dues machine and the cells of its steps are in finite lists.
use Rattle.std.proofs.Common.{◌≡◌, ℕ, zero, suc, ◌≤◌, Bool, true, false, not, ◌&&◌, ◌||◌, List, [], ◌∷◌, ◌++◌, ◌⊎◌, inl, inr, Option, Some, None, length, map, take, refl, sym, ap, ◌∙◌, subst, cond, nat_eq, arith, is_some, append_assoc}
use Rattle.std.specs.List.{flat_map, list_all, Contains}
use Rattle.std.specs.List.Sorted.{IsStrictlySortedBy}
use Rattle.std.specs.Ordering.{eq_by_cmp, is_eq}
use Rattle.std.specs.Option.{option_map_or}
use Rattle.std.specs.Set.{is_member}
use Rattle.std.specs.declared.cmp.Ordering.{Ordering}
use Rattle.std.specs.declared.cmp.Ordering.TheVariants.{Less, Equal, Greater}
use Rattle.std.proofs.lemmas.Cmp.{eq_by_cmp_equiv, tied_itself}
use Rattle.std.proofs.lemmas.Map.Keys.{IsDistinct-from_sorted}
use Rattle.std.proofs.lemmas.Map.Made.{length-le_from_is_member}
use Rattle.std.proofs.lemmas.Bool.{or_right}
use Rattle.brl_pairs.specs.Runs.{IsListed}
use Rattle.brl_pairs.specs.declared.step.Step.{Step}
use Rattle.brl_rules.specs.declared.class.Class.{Class}
use Rattle.brl_rules.specs.declared.context.Context.{Context}
use Rattle.brl_rules.specs.declared.place.Cond.{Cond}
use Rattle.brl_rules.specs.declared.place.Cond.TheVariants.{Any, Meets, Avoids}
use Rattle.brl_rules.specs.declared.place.Place.{Place}
use Rattle.brl_rules.specs.declared.place.Place.TheVariants.{Always, Word, Sufword, Prfword, Begword, Begmidword, Midword, Midendword, Endword, Partword, Begnum, Midnum, Endnum}
use Rattle.brl_rules.specs.declared.rule.Info.{Info}
use Rattle.brl_rules.specs.declared.rule.Rule.{Rule}
use Rattle.brl_rules.specs.Places.{after_of, before_of, holds, letter, none, share, uppercase}
use Rattle.brl_rules.specs.TableView.{TableView, info_of}
use Rattle.brl_rules.specs.Text.{classes_of, context_after, context_after_all, fold_of, has_word_capitals, is_capital}
use Rattle.brl_dues.specs.declared.carry.Carried.{Carried}
use Rattle.brl_dues.specs.declared.carry.Carried.TheVariants.{Left, Settled}
use Rattle.brl_states.specs.declared.due.Due.{Due}
use Rattle.brl_states.specs.declared.due.Due.TheVariants.{Need, Bar}
use Rattle.brl_states.specs.declared.dues_state.DuesState.{DuesState}
use Rattle.brl_dues.specs.Capitals.{any_if, capitals, choices, further, further_by, is_upper, letters, put_capital}
use Rattle.brl_dues.specs.Carry.{bars_after, bars_past, bars_to, carry, carry_bar, carry_capitals, is_whole, left_of, lefts, need, opposed, settled_if}
use Rattle.brl_dues.specs.Finite.{after_conds, all_cells, all_classes, all_contexts, all_dues, all_leads, all_states, bars_from, bars_with, with_classes, cells_in, endings, lists_up_to, need_conds, needs_of, texts_of}
use Rattle.brl_dues.specs.CaseForm.{CaseForm, IsForm, forms, groups}
use Rattle.brl_states.specs.Order.{due_cmp, in_order}
use Rattle.brl_states.specs.DuesContext.{context_of, state_in}
use Rattle.brl_dues.specs.Steps.{IsStep, dues_steps, first_state, next_dues, owed}
use Rattle.brl_states.proofs.DueOrder.{due_tied, due_total, from-in_order, in_order-sorted}
use Rattle.brl_dues.proofs.Forms.{IsForm-forms, defined-in, from-put, listed-IsStep}
use Rattle.brl_pairs.proofs.Listing.{IsIn, from-flat_map, in-append, in-flat_map, in-left, in-right, Contains-in, in-Contains, in-map, from-map}

-- ---- Lists

from-take : {X : Type 0} (x : X) (n : ℕ) (xs : List X) → IsIn x (take n xs) → IsIn x xs
from-take x zero xs h = absurd h
from-take x (suc n) [] h = absurd h
from-take x (suc n) (y ∷ xs) (inl e) = inl e
from-take x (suc n) (y ∷ xs) (inr h) = inr (from-take x n xs h)

into-endings : {X : Type 0} (front xs ys : List X) → xs ≡ front ++ ys → IsIn ys (endings xs)
into-endings [] [] ys e = inl (sym e)
into-endings [] (x ∷ xs) ys e = inl (sym e)
into-endings (z ∷ front) [] ys e = cc
into-endings (z ∷ front) (x ∷ xs) ys e = inr (into-endings front xs ys (let tails : xs ≡ front ++ ys = cc in tails))

from-endings : {X : Type 0} (xs ys : List X) → IsIn ys (endings xs) → (front : List X) × (xs ≡ front ++ ys)
from-endings [] ys (inl e) = ([], sym e)
from-endings [] ys (inr h) = absurd h
from-endings (x ∷ xs) ys (inl e) = ([], sym e)
from-endings (x ∷ xs) ys (inr h) = (let m = from-endings xs ys h in (x ∷ m.0, ap (λ l. x ∷ l) m.1))

into-lists : {X : Type 0} (us ds : List X) (n : ℕ) → ((d : X) → IsIn d ds → IsIn d us) → length ds ≤ n → IsIn ds (lists_up_to us n)
into-lists us [] zero f few = inl refl
into-lists us [] (suc n) f few = inl refl
into-lists us (d ∷ ds) zero f few = absurd (omega (arith, few))
into-lists us (d ∷ ds) (suc n) f few =
    inr (in-flat_map (λ x. map (λ l. x ∷ l) (lists_up_to us n)) d (d ∷ ds) us (f d (inl refl))
    (in-map (λ l. d ∷ l) ds (lists_up_to us n) (into-lists us ds n (λ x i. f x (inr i)) (omega (arith, few)))))

from-lists : {X : Type 0} (us ds : List X) (n : ℕ) → IsIn ds (lists_up_to us n) → (d : X) → IsIn d ds → IsIn d us
from-lists us ds zero (inl e) d i = absurd (subst (IsIn d) e i)
from-lists us ds zero (inr h) d i = absurd h
from-lists us ds (suc n) (inl e) d i = absurd (subst (IsIn d) e i)
from-lists us ds (suc n) (inr h) d i =
    let m = from-flat_map (λ x. map (λ l. x ∷ l) (lists_up_to us n)) ds us h in
    let w = from-map (λ l. m.0 ∷ l) ds (lists_up_to us n) m.2 in
    elim (subst (IsIn d) w.2 i) [ inl e ↦ subst (λ x. IsIn x us) (sym e) m.1 | inr j ↦ from-lists us w.0 n w.1 d j ]

-- ---- Lists in order

is-equal : (o : Ordering) → is_eq o ≡ true → o ≡ Equal
is-equal Less e = cc
is-equal Equal e = refl
is-equal Greater e = cc

in-member : (d : Due) (us : List Due) → IsIn d us → is_member (eq_by_cmp due_cmp) us d ≡ true
in-member d [] h = absurd h
in-member d (e ∷ us) (inl same) =
    subst (λ x. is_member (eq_by_cmp due_cmp) (x ∷ us) d ≡ true) same (ap (λ o. is_eq o || is_member (eq_by_cmp due_cmp) us d) (tied_itself due_total d))
in-member d (e ∷ us) (inr h) = or_right (eq_by_cmp due_cmp d e) (is_member (eq_by_cmp due_cmp) us d) (in-member d us h)

member-in : (d : Due) (us : List Due) → is_member (eq_by_cmp due_cmp) us d ≡ true → IsIn d us
member-in d [] h = cc
member-in d (e ∷ us) h = pick (eq_by_cmp due_cmp d e) refl h (member-in d us)
  where
    pick : (q : Bool) → eq_by_cmp due_cmp d e ≡ q → (q || is_member (eq_by_cmp due_cmp) us d) ≡ true → (is_member (eq_by_cmp due_cmp) us d ≡ true → IsIn d us) → (d ≡ e) ⊎ IsIn d us
    pick true q k more = inl (due_tied d e (is-equal (due_cmp d e) q))
    pick false q k more = inr (more k)

-- a list in order is no longer than any that has its members
in-order-short : (ds us : List Due) → IsStrictlySortedBy due_cmp ds → ((d : Due) → IsIn d ds → IsIn d us) → length ds ≤ length us
in-order-short ds us sorted f =
    length-le_from_is_member (eq_by_cmp_equiv due_total) ds us (IsDistinct-from_sorted due_cmp ds sorted) (λ d h. in-member d us (f d (member-in d ds h)))

-- ---- Conditions

after-in : (place : Place) (before : Class) → IsIn (after_of place before) after_conds
after-in Always before = inl refl
after-in Word before = inr (inl refl)
after-in Sufword before = inr (inr (inl refl))
after-in Prfword before = inr (inl refl)
after-in Begword before = inr (inr (inr (inl refl)))
after-in Begmidword before = inr (inr (inr (inl refl)))
after-in Midword before = inr (inr (inr (inl refl)))
after-in Midendword before = inr (inr (inl refl))
after-in Endword before = inr (inl refl)
after-in Partword before = pick (share before letter)
  where
    pick : (b : Bool) → IsIn (cond b Any (Meets letter)) after_conds
    pick true = inl refl
    pick false = inr (inr (inr (inl refl)))
after-in Begnum before = inr (inr (inr (inr (inl refl))))
after-in Midnum before = inr (inr (inr (inr (inl refl))))
after-in Endnum before = inr (inr (inr (inr (inr (inl refl)))))

-- what must follow so that a form is in a run of capitals, or out of one
any-in : (b : Bool) (next : Cond) → any_if b ≡ Some next → IsIn next need_conds
any-in true next e = inr (inr (inl (let same : Any ≡ next = cc in sym same)))
any-in false next e = cc

by-in : (t : TableView) (run : Bool) (others : List ℕ) (next : Cond) → further_by t run others ≡ Some next → IsIn next need_conds
by-in t true [] next e = inl (let same : Meets uppercase ≡ next = cc in sym same)
by-in t false [] next e = inr (inl (let same : Avoids uppercase ≡ next = cc in sym same))
by-in t true (d ∷ others) next e = any-in (is_upper t d) next e
by-in t false (d ∷ others) next e = any-in (not (is_upper t d)) next e

further-in : (t : TableView) (before : Class) (run : Bool) (reads : List ℕ) (next : Cond) → further t before run reads ≡ Some next → IsIn next need_conds
further-in t before run [] next e = cc
further-in t before run (c ∷ others) next e = at (has_word_capitals t && is_upper t c) (is_capital before) e
  where
    at : (w b : Bool) → cond w (cond b (any_if run) (further_by t run others)) (any_if (not run)) ≡ Some next → IsIn next need_conds
    at true true k = any-in run next k
    at true false k = by-in t run others next k
    at false b k = any-in (not run) next k

after-needed : (c : Cond) → IsIn c after_conds → IsIn c need_conds
after-needed c h = inr (inr h)

-- ---- Dues

none-settled : (d : Due) (b : Bool) → IsIn d (left_of (settled_if b)) → ⊥
none-settled d true h = h
none-settled d false h = h

module _ (t : TableView) where
  into-needs : (d : Due) (c : Cond) → IsIn c need_conds → IsIn d (needs_of c) → IsIn d (all_dues t)
  into-needs d c i h = in-left d (flat_map needs_of need_conds) (flat_map (bars_from t) t.rules) (in-flat_map needs_of c d need_conds i h)

  need-in : (d : Due) (c : Cond) → IsIn c need_conds → IsIn d (left_of (need c)) → IsIn d (all_dues t)
  need-in d c i h = into-needs d c i (in-left d (left_of (need c)) (left_of (opposed c)) h)

  opposed-in : (d : Due) (c : Cond) → IsIn c after_conds → IsIn d (left_of (opposed c)) → IsIn d (all_dues t)
  opposed-in d c i h = into-needs d c (after-needed c i) (in-right d (left_of (need c)) (left_of (opposed c)) h)

  -- what the characters of a rule end with, and a condition
  record IsEnding (chars : List ℕ) (c : Cond) : Type 0 where
    rule : Rule
    there : IsIn rule t.rules
    front : List ℕ
    ends : rule.chars ≡ front ++ chars
    asks : IsIn c after_conds

  -- one character later
  next-ending : (a : ℕ) (chars : List ℕ) (c : Cond) → IsEnding (a ∷ chars) c → IsEnding chars c
  next-ending a chars c h = record { rule = h.rule; there = h.there; front = h.front ++ a ∷ []; ends = h.ends ∙ sym (append_assoc h.front (a ∷ []) chars); asks = h.asks }

  -- a bar of the list is of a text for what the characters of a rule end with
  record IsBar (text : List ℕ) (c : Cond) : Type 0 where
    chars : List ℕ
    ending : IsEnding chars c
    is_text : IsIn text (texts_of t chars)

  bar-in : (text : List ℕ) (c : Cond) → IsBar text c → IsIn (Bar text c) (all_dues t)
  bar-in text c h =
      let r = h.ending.rule in
      in-right (Bar text c) (flat_map needs_of need_conds) (flat_map (bars_from t) t.rules)
      (in-flat_map (bars_from t) r (Bar text c) t.rules h.ending.there
      (in-flat_map bars_with text (Bar text c) (flat_map (texts_of t) (endings r.chars))
      (in-flat_map (texts_of t) h.chars text (endings r.chars) (into-endings h.ending.front r.chars h.chars h.ending.ends) h.is_text)
      (in-map (Bar text) c after_conds h.ending.asks)))

  no-bar : (chars : List ℕ) (c k : Cond) → IsIn (Bar chars c) (needs_of k) → ⊥
  no-bar chars c Any h = h
  no-bar chars c (Meets s) (inl e) = cc
  no-bar chars c (Meets s) (inr (inl e)) = cc
  no-bar chars c (Meets s) (inr (inr h)) = h
  no-bar chars c (Avoids s) (inl e) = cc
  no-bar chars c (Avoids s) (inr (inl e)) = cc
  no-bar chars c (Avoids s) (inr (inr h)) = h

  same-chars : (x y : List ℕ) (c d : Cond) → Bar x c ≡ Bar y d → (x ≡ y) × (c ≡ d)
  same-chars x y c d e = (cc, cc)

  from-bar : (text : List ℕ) (c : Cond) → IsIn (Bar text c) (all_dues t) → IsBar text c
  from-bar text c h = elim (in-append (Bar text c) (flat_map needs_of need_conds) (flat_map (bars_from t) t.rules) h) [
    | inl k ↦ (let m = from-flat_map needs_of (Bar text c) need_conds k in absurd (no-bar text c m.0 m.2))
    | inr k ↦ (
        let m = from-flat_map (bars_from t) (Bar text c) t.rules k in
        let y = from-flat_map bars_with (Bar text c) (flat_map (texts_of t) (endings m.0.chars)) m.2 in
        let z = from-flat_map (texts_of t) y.0 (endings m.0.chars) y.1 in
        let w = from-map (Bar y.0) (Bar text c) after_conds y.2 in
        let same = same-chars text y.0 c w.0 w.2 in
        let front = from-endings m.0.chars z.0 z.1 in
        record {
          chars = z.0;
          ending = record { rule = m.0; there = m.1; front = front.0; ends = front.1; asks = subst (λ z. IsIn z after_conds) (sym same.1) w.1 };
          is_text = subst (λ l. IsIn l (texts_of t z.0)) (sym same.0) z.2;
        })
  ]

  -- a bar of one character fewer
  next-bar : (a : ℕ) (text : List ℕ) (c : Cond) → IsBar (a ∷ text) c → IsBar text c
  next-bar a text c h = at h.chars h.ending h.is_text
    where
      at : (chars : List ℕ) → IsEnding chars c → IsIn (a ∷ text) (texts_of t chars) → IsBar text c
      at chars ending (inl e) = record { chars = text; ending = next-ending a text c (subst (λ l. IsEnding l c) (sym e) ending); is_text = inl refl }
      at [] ending (inr (inl e)) = cc
      at [] ending (inr (inr k)) = absurd k
      at (b ∷ chars) ending (inr k) =
          let m = from-flat_map (put_capital t b (choices t chars)) (a ∷ text) (capitals t) k in
          let w = from-put t b (choices t chars) m.0 (a ∷ text) m.2 in
          let pair : a ∷ text ≡ m.0 ∷ w.1.0 = w.1.2 in
          let rest : text ≡ w.1.0 = cc in
          record { chars = chars; ending = next-ending b chars c ending; is_text = inr (subst (λ l. IsIn l (choices t chars)) (sym rest) w.1.1) }

  either-in : (d : Due) (b : Bool) (r : Carried) → (IsIn d (left_of r) → IsIn d (all_dues t)) → IsIn d (left_of (cond b r Settled)) → IsIn d (all_dues t)
  either-in d true r f h = f h
  either-in d false r f h = absurd h

  carry_bar-in : (past text : List ℕ) (c : Cond) → IsBar text c → (d : Due) → IsIn d (left_of (carry_bar t past text c)) → IsIn d (all_dues t)
  carry_bar-in [] [] c is d h = opposed-in d c is.ending.asks h
  carry_bar-in [] (a ∷ text) c is d (inl e) = subst (λ x. IsIn x (all_dues t)) (sym e) (bar-in (a ∷ text) c is)
  carry_bar-in [] (a ∷ text) c is d (inr h) = absurd h
  carry_bar-in (b ∷ past) [] c is d h = absurd (none-settled d _ h)
  carry_bar-in (b ∷ past) (a ∷ text) c is d h = either-in d (nat_eq a b) (carry_bar t past text c) (carry_bar-in past text c (next-bar a text c is) d) h

  carry-in : (past : List ℕ) (old : Due) → IsIn old (all_dues t) → (d : Due) → IsIn d (left_of (carry t past old)) → IsIn d (all_dues t)
  carry-in [] (Need c) i d (inl e) = subst (λ x. IsIn x (all_dues t)) (sym e) i
  carry-in [] (Need c) i d (inr h) = absurd h
  carry-in (b ∷ past) (Need c) i d h = absurd (none-settled d _ h)
  carry-in past (Bar [] c) i d h = absurd h
  carry-in past (Bar (a ∷ chars) c) i d h = carry_bar-in past (a ∷ chars) c (from-bar (a ∷ chars) c i) d h

  -- ---- The bars of a rule

  -- what is left of each of these is among the dues
  abbrev AllIn : List Carried → Type 0
  AllIn carried = (k : Carried) (d : Due) → IsIn k carried → IsIn d (left_of k) → IsIn d (all_dues t)

  if-in : (b : Bool) (carried : List Carried) → AllIn carried → AllIn (cond b carried [])
  if-in true carried f k d i h = f k d i h
  if-in false carried f k d i h = absurd i

  one-in : (carried : Carried) → ((d : Due) → IsIn d (left_of carried) → IsIn d (all_dues t)) → AllIn (carried ∷ [])
  one-in carried f k d (inl e) h = f d (subst (λ x. IsIn d (left_of x)) e h)
  one-in carried f k d (inr i) h = absurd i

  carry_capitals-in : (past chars : List ℕ) (c : Cond) → IsEnding chars c → AllIn (carry_capitals t past chars c)
  carry_capitals-in [] [] c is = one-in (opposed c) (λ d h. opposed-in d c is.asks h)
  carry_capitals-in [] (a ∷ chars) c is = λ k d i h. (
      let m = from-map (λ text. Left (Bar text c)) k (choices t (a ∷ chars)) i in
      elim (subst (λ x. IsIn d (left_of x)) m.2 h) [
        | inl e ↦ subst (λ x. IsIn x (all_dues t)) (sym e) (bar-in m.0 c (record { chars = a ∷ chars; ending = is; is_text = inr m.1 }))
        | inr more ↦ absurd more
      ])
  carry_capitals-in (b ∷ past) [] c is = one-in (settled_if (not (holds c (classes_of t b)))) (λ d h. absurd (none-settled d _ h))
  carry_capitals-in (b ∷ past) (a ∷ chars) c is =
      if-in (is_upper t b && nat_eq a (fold_of t b)) (carry_capitals t past chars c) (carry_capitals-in past chars c (next-ending a chars c is))

  bars_past-in : (before : Class) (run : Bool) (b : ℕ) (past chars : List ℕ) (c : Cond) → IsEnding chars c → AllIn (bars_past t before run b past chars c)
  bars_past-in before true b past chars c is = carry_capitals-in past chars c is
  bars_past-in before false b past chars c is =
      if-in (is_some (further t before false (b ∷ chars))) (carry_bar t past chars c ∷ [])
      (one-in (carry_bar t past chars c) (λ d h. carry_bar-in past chars c (record { chars = chars; ending = is; is_text = inl refl }) d h))

  bars_after-in : (r : Rule) (before : Class) (run : Bool) (c : ℕ) (past chars : List ℕ) (after : Cond) → IsIn r t.rules → IsIn after after_conds → r.chars ≡ chars
      → AllIn (bars_after t before run c past chars after)
  bars_after-in r before run c past [] after i asks e = λ k d j h. absurd j
  bars_after-in r before run c past (first ∷ others) after i asks e =
      if-in (nat_eq first (fold_of t c)) (bars_past t before run c past others after)
      (bars_past-in before run c past others after (record { rule = r; there = i; front = first ∷ []; ends = e; asks = asks }))

  bars_to-in : (before : Class) (run : Bool) (reads : List ℕ) (r : Rule) → IsIn r t.rules → AllIn (bars_to t before run reads r)
  bars_to-in before run [] r i = λ k d j h. absurd j
  bars_to-in before run (c ∷ past) r i =
      if-in (holds (before_of r.place) before) (bars_after t before run c past r.chars (after_of r.place before))
      (bars_after-in r before run c past r.chars (after_of r.place before) i (after-in r.place before) refl)

  -- ---- Forms

  form-after : (before : Class) (f : CaseForm) → IsForm t before f → IsIn f.after need_conds
  form-after before f (inl h) = subst (λ z. IsIn z need_conds) (sym h.after) (after-needed (after_of h.rule.place before) (after-in h.rule.place before))
  form-after before f (inr h) = subst (λ z. IsIn z need_conds) (sym h.after) (after-needed Any (inl refl))

  form-next : (before : Class) (f : CaseForm) → IsForm t before f → IsIn f.next need_conds
  form-next before f (inl h) = further-in t before f.run (h.character ∷ h.others) f.next h.next
  form-next before f (inr h) = further-in t before f.run (h.character ∷ []) f.next h.next

  form-above : (before : Class) (f : CaseForm) → IsForm t before f → (r : Rule) → IsIn r f.above → IsIn r t.rules
  form-above before f (inl h) r i = from-take r f.number t.rules (subst (IsIn r) h.above i)
  form-above before f (inr h) r i = subst (IsIn r) h.above i

  -- ---- The dues after a step

  when-whole : (b : Bool) (xs dues : List Due) → cond b (Some xs) None ≡ Some dues → xs ≡ dues
  when-whole true xs dues e = cc
  when-whole false xs dues e = cc

  left-in : (s : DuesState) (f : CaseForm) → IsForm t s.before f → ((d : Due) → IsIn d s.dues → IsIn d (all_dues t)) → (d : Due)
      → IsIn d (lefts (map (carry t f.reads) s.dues ++ owed t s.before f)) → IsIn d (all_dues t)
  left-in s f is old d h =
      let m = from-flat_map left_of d (map (carry t f.reads) s.dues ++ owed t s.before f) h in
      elim (in-append m.0 (map (carry t f.reads) s.dues) (owed t s.before f) m.1) [
        | inl i ↦ (
            let w = from-map (carry t f.reads) m.0 s.dues i in
            carry-in f.reads w.0 (old w.0 w.1) d (subst (λ c. IsIn d (left_of c)) w.2 m.2))
        | inr (inl e) ↦ need-in d f.after (form-after s.before f is) (subst (λ c. IsIn d (left_of c)) e m.2)
        | inr (inr (inl e)) ↦ need-in d f.next (form-next s.before f is) (subst (λ c. IsIn d (left_of c)) e m.2)
        | inr (inr (inr i)) ↦ (
            let w = from-flat_map (bars_to t s.before f.run f.reads) m.0 f.above i in
            bars_to-in s.before f.run f.reads w.0 (form-above s.before f is w.0 w.1) m.0 d w.2 m.2)
      ]

  next-listed : (s : DuesState) (f : CaseForm) (dues : List Due) → IsForm t s.before f → ((d : Due) → IsIn d s.dues → IsIn d (all_dues t)) → next_dues t s f ≡ Some dues
      → IsIn dues (lists_up_to (all_dues t) (length (all_dues t)))
  next-listed s f dues is old left =
      let carried = map (carry t f.reads) s.dues ++ owed t s.before f in
      let same : in_order (lefts carried) ≡ dues = when-whole (list_all is_whole carried) (in_order (lefts carried)) dues left in
      let sorted : IsStrictlySortedBy due_cmp dues = subst (IsStrictlySortedBy due_cmp) same (in_order-sorted (lefts carried)) in
      let each : (d : Due) → IsIn d dues → IsIn d (all_dues t) = λ d i. left-in s f is old d (from-in_order d (lefts carried) (subst (IsIn d) (sym same) i)) in
      into-lists (all_dues t) dues (length (all_dues t)) each (in-order-short dues (all_dues t) sorted each)

  -- ---- The context

  classes-in : (c : ℕ) → IsIn (classes_of t c) (all_classes t)
  classes-in c = pick (info_of t c) refl
    where
      pick : (o : Option Info) → info_of t c ≡ o → IsIn (classes_of t c) (all_classes t)
      pick None e = inr (inl (ap (λ p. option_map_or (λ (info : Info). info.classes) p none) e))
      pick (Some info) e = inr (inr (in-map (classes_of t) c (letters t) (defined-in t.characters c (ap is_some e))))

  behind-in : (here : Context) (cs : List ℕ) → IsIn here.classes (all_classes t) → IsIn (context_after_all t here cs).classes (all_classes t)
  behind-in here [] h = h
  behind-in here (c ∷ cs) h = behind-in (context_after t here c) cs (classes-in c)

  context-in : (here : Context) → IsIn here.classes (all_classes t) → IsIn here (all_contexts t)
  context-in here h = in-flat_map with_classes here.classes here (all_classes t) h (flags here.numeric here.run refl refl)
    where
      flags : (numeric run : Bool) → here.numeric ≡ numeric → here.run ≡ run → IsIn here (with_classes here.classes)
      flags false false n r = inl (λ i. record { classes = here.classes; numeric = n i; run = r i })
      flags false true n r = inr (inl (λ i. record { classes = here.classes; numeric = n i; run = r i }))
      flags true false n r = inr (inr (inl (λ i. record { classes = here.classes; numeric = n i; run = r i })))
      flags true true n r = inr (inr (inr (inl (λ i. record { classes = here.classes; numeric = n i; run = r i }))))

  from-contexts : (here : Context) → IsIn here (all_contexts t) → IsIn here.classes (all_classes t)
  from-contexts here h =
      let m = from-flat_map with_classes here (all_classes t) h in
      subst (λ k. IsIn k (all_classes t)) (sym (of-flags m.0 m.2)) m.1
    where
      of-flags : (classes : Class) → IsIn here (with_classes classes) → here.classes ≡ classes
      of-flags classes (inl e) = ap (λ (k : Context). k.classes) e
      of-flags classes (inr (inl e)) = ap (λ (k : Context). k.classes) e
      of-flags classes (inr (inr (inl e))) = ap (λ (k : Context). k.classes) e
      of-flags classes (inr (inr (inr (inl e)))) = ap (λ (k : Context). k.classes) e
      of-flags classes (inr (inr (inr (inr k)))) = absurd k

  -- ---- States and cells

  pub record IsPossible (s : DuesState) : Type 0 where
    pub context : IsIn (context_of s) (all_contexts t)
    pub dues : IsIn s.dues (lists_up_to (all_dues t) (length (all_dues t)))

  from-states : (s : DuesState) → IsIn s (all_states t) → IsPossible s
  from-states s h =
      let m = from-flat_map (λ here. map (state_in here) (lists_up_to (all_dues t) (length (all_dues t)))) s (all_contexts t) h in
      let w = from-map (state_in m.0) s (lists_up_to (all_dues t) (length (all_dues t))) m.2 in
      record {
        context = subst (λ (k : DuesState). IsIn (context_of k) (all_contexts t)) (sym w.2) m.1;
        dues = subst (λ (k : DuesState). IsIn k.dues (lists_up_to (all_dues t) (length (all_dues t)))) (sym w.2) w.1;
      }

  into-states : (here : Context) (dues : List Due) → IsIn here (all_contexts t) → IsIn dues (lists_up_to (all_dues t) (length (all_dues t))) → IsIn (state_in here dues) (all_states t)
  into-states here dues h i =
      in-flat_map (λ here. map (state_in here) (lists_up_to (all_dues t) (length (all_dues t)))) here (state_in here dues) (all_contexts t) h
      (in-map (state_in here) dues (lists_up_to (all_dues t) (length (all_dues t))) i)

  first-in : IsIn first_state (all_states t)
  first-in = into-states (context_of first_state) [] (context-in (context_of first_state) (inl refl)) (into-lists (all_dues t) [] (length (all_dues t)) (λ d h. absurd h) (omega arith))

  step-in : (s : DuesState) (x : Step DuesState) → IsIn s (all_states t) → IsStep t s x → IsIn x.next (all_states t)
  step-in s x h is =
      let p = from-states s h in
      let old = from-lists (all_dues t) s.dues (length (all_dues t)) p.dues in
      let behind = context_after_all t (context_of s) is.form.reads in
      let here = context-in behind (behind-in (context_of s) is.form.reads (from-contexts (context_of s) p.context)) in
      subst (λ (y : Step DuesState). IsIn y.next (all_states t)) (sym is.step) (into-states behind is.dues here (next-listed s is.form is.dues is.is_form old is.left))

  cells-in : (s : DuesState) (x : Step DuesState) → IsIn s (all_states t) → IsStep t s x → IsIn x.cells (all_cells t)
  cells-in s x h is =
      let p = from-states s h in
      let some = IsForm-forms t s.before is.form is.is_form in
      subst (λ (y : Step DuesState). IsIn y.cells (all_cells t)) (sym is.step)
      (in-flat_map (λ (here : Context). map (cells_in t here) (forms t here.classes)) (context_of s) (cells_in t (context_of s) is.form) (all_contexts t) p.context
      (in-map (cells_in t (context_of s)) is.form (forms t s.before) (in-flat_map (λ group. group) some.group is.form (groups t s.before) some.there some.inside)))

  pub first-Contains : Contains (all_states t) first_state
  first-Contains = in-Contains first_state (all_states t) first-in

  pub step-Contains : (s : DuesState) (x : Step DuesState) → Contains (all_states t) s → IsListed (dues_steps t s) x → Contains (all_states t) x.next
  step-Contains s x h listed = in-Contains x.next (all_states t) (step-in s x (Contains-in s (all_states t) h) (listed-IsStep t s x listed))

  pub cells-Contains : (s : DuesState) (x : Step DuesState) → Contains (all_states t) s → IsListed (dues_steps t s) x → Contains (all_cells t) x.cells
  cells-Contains s x h listed = in-Contains x.cells (all_cells t) (cells-in s x (Contains-in s (all_states t) h) (listed-IsStep t s x listed))

  pub leads-Contains : (s : DuesState) (x : Step DuesState) (front lead : List ℕ) → Contains (all_states t) s → IsListed (dues_steps t s) x → x.cells ≡ front ++ lead → Contains (all_leads t) lead
  leads-Contains s x front lead h listed e =
      in-Contains lead (all_leads t)
      (in-flat_map endings x.cells lead (all_cells t) (cells-in s x (Contains-in s (all_states t) h) (listed-IsStep t s x listed)) (into-endings front x.cells lead e))

  pub dues-Contains : (s : DuesState) (d : Due) → Contains (all_states t) s → Contains s.dues d → Contains (all_dues t) d
  dues-Contains s d h i =
      in-Contains d (all_dues t) (from-lists (all_dues t) s.dues (length (all_dues t)) (from-states s (Contains-in s (all_states t) h)).dues d (Contains-in d s.dues i))
