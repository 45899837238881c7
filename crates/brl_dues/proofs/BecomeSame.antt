-- Where two steps of a base become the same, and one of them stays as it is, they are one step. Two
-- forms may differ only in whether they begin a run of capitals. Then each owes a need that the
-- other doesn't owe, and no other due asks for a capital or for none.
use Rattle.std.proofs.Common.{◌≡◌, ℕ, Bool, true, false, not, ◌&&◌, ◌||◌, List, [], ◌∷◌, ◌++◌, Option, Some, None, is_some, map, refl, sym, ap, ap₂, ◌∙◌, subst, cond, nat_eq, inl, inr, flat_map}
use Rattle.std.proofs.lemmas.List.Folds.{list_any-append}
use Rattle.std.specs.List.{list_any}
use Rattle.brl_pairs.specs.declared.step.Step.{Step}
use Rattle.brl_pairs.specs.Runs.{IsListed}
use Rattle.brl_rules.specs.declared.class.Class.{Class}
use Rattle.brl_rules.specs.declared.place.Cond.{Cond}
use Rattle.brl_rules.specs.declared.place.Cond.TheVariants.{Any, Meets, Avoids}
use Rattle.brl_rules.specs.declared.place.Place.{Place}
use Rattle.brl_rules.specs.declared.place.Place.TheVariants.{Always, Word, Sufword, Prfword, Begword, Begmidword, Midword, Midendword, Endword, Partword, Begnum, Midnum, Endnum}
use Rattle.brl_rules.specs.declared.rule.Rule.{Rule}
use Rattle.brl_rules.specs.Places.{after_of, before_of, holds, letter, share, uppercase}
use Rattle.brl_rules.specs.TableView.{TableView}
use Rattle.brl_rules.specs.Text.{classes_of, fold_of, has_word_capitals, is_capital}
use Rattle.brl_dues.specs.declared.carry.Carried.{Carried}
use Rattle.brl_dues.specs.declared.carry.Carried.TheVariants.{Broken, Settled, Left}
use Rattle.brl_states.specs.declared.due.Due.{Due}
use Rattle.brl_states.specs.declared.due.Due.TheVariants.{Need, Bar}
use Rattle.brl_states.specs.declared.dues_state.DuesState.{DuesState}
use Rattle.brl_states.specs.Order.{cond_set}
use Rattle.brl_dues.specs.Capitals.{any_if, choices, further, further_by, is_upper}
use Rattle.brl_dues.specs.Carry.{bars_after, bars_past, bars_to, carry_bar, carry_capitals, need, opposed, settled_if}
use Rattle.brl_dues.specs.CaseForm.{CaseForm, IsForm}
use Rattle.brl_dues.specs.Contexts.{bars, base_of, gate_of, more, opens, owing, owing_if, step_past}
use Rattle.brl_dues.specs.Steps.{IsStep, dues_steps, owed}
use Rattle.brl_dues.proofs.Exact.{one-form, one-step}
use Rattle.brl_dues.proofs.Forms.{listed-IsStep}
use Rattle.brl_dues.proofs.Left.{gathered-are}
use Rattle.brl_dues.proofs.Meeting.{nothing-more}
use Rattle.brl_states.proofs.DueOrder.{in-in_order}
use Rattle.brl_pairs.proofs.Listing.{Contains-in, IsIn, in-Contains, in-left}

-- ---- What asks for a capital

-- whether a condition asks for a capital, or for none
abbrev is_of_case : Cond → Bool
is_of_case c = nat_eq (cond_set c) 32

abbrev asks : Carried → Bool
asks Broken = false
asks Settled = false
asks (Left (Need c)) = is_of_case c
asks (Left (Bar chars c)) = false

-- no place does
after-plain : (place : Place) (before : Class) → is_of_case (after_of place before) ≡ false
after-plain Always before = refl
after-plain Word before = refl
after-plain Sufword before = refl
after-plain Prfword before = refl
after-plain Begword before = refl
after-plain Begmidword before = refl
after-plain Midword before = refl
after-plain Midendword before = refl
after-plain Endword before = refl
after-plain Partword before = at (share before letter)
  where
    at : (b : Bool) → is_of_case (cond b Any (Meets letter)) ≡ false
    at true = refl
    at false = refl
after-plain Begnum before = refl
after-plain Midnum before = refl
after-plain Endnum before = refl

opposed-plain : (c : Cond) → is_of_case c ≡ false → asks (opposed c) ≡ false
opposed-plain Any h = refl
opposed-plain (Meets set) h = h
opposed-plain (Avoids set) h = h

need-plain : (c : Cond) → is_of_case c ≡ false → asks (need c) ≡ false
need-plain Any h = refl
need-plain (Meets set) h = h
need-plain (Avoids set) h = h

settled-plain : (b : Bool) → asks (settled_if b) ≡ false
settled-plain true = refl
settled-plain false = refl

abbrev ArePlain : List Carried → Type 0
ArePlain carried = list_any asks carried ≡ false

one-plain : (x : Carried) → asks x ≡ false → ArePlain (x ∷ [])
one-plain x h = ap (λ b. b || false) h

if-plain : (b : Bool) (carried : List Carried) → ArePlain carried → ArePlain (cond b carried [])
if-plain true carried h = h
if-plain false carried h = refl

texts-plain : (c : Cond) (texts : List (List ℕ)) → ArePlain (map (λ text. Left (Bar text c)) texts)
texts-plain c [] = refl
texts-plain c (text ∷ texts) = texts-plain c texts

module _ (t : TableView) where
  carry_bar-plain : (past chars : List ℕ) (c : Cond) → is_of_case c ≡ false → asks (carry_bar t past chars c) ≡ false
  carry_bar-plain [] [] c h = opposed-plain c h
  carry_bar-plain [] (a ∷ chars) c h = refl
  carry_bar-plain (b ∷ past) [] c h = settled-plain (not (holds c (classes_of t b)))
  carry_bar-plain (b ∷ past) (a ∷ chars) c h = at (nat_eq a b) (carry_bar-plain past chars c h)
    where
      at : (e : Bool) → asks (carry_bar t past chars c) ≡ false → asks (cond e (carry_bar t past chars c) Settled) ≡ false
      at true k = k
      at false k = refl

  carry_capitals-plain : (past chars : List ℕ) (c : Cond) → is_of_case c ≡ false → ArePlain (carry_capitals t past chars c)
  carry_capitals-plain [] [] c h = one-plain (opposed c) (opposed-plain c h)
  carry_capitals-plain [] (a ∷ chars) c h = texts-plain c (choices t (a ∷ chars))
  carry_capitals-plain (b ∷ past) [] c h = one-plain (settled_if (not (holds c (classes_of t b)))) (settled-plain (not (holds c (classes_of t b))))
  carry_capitals-plain (b ∷ past) (a ∷ chars) c h = if-plain (is_upper t b && nat_eq a (fold_of t b)) (carry_capitals t past chars c) (carry_capitals-plain past chars c h)

  module _ (before : Class) (run : Bool) where
    past-plain : (b : ℕ) (past chars : List ℕ) (c : Cond) → is_of_case c ≡ false → ArePlain (bars_past t before run b past chars c)
    past-plain b past chars c h = at run
      where
        at : (r : Bool) → ArePlain (cond r (carry_capitals t past chars c) (cond (is_some (further t before false (b ∷ chars))) (carry_bar t past chars c ∷ []) []))
        at true = carry_capitals-plain past chars c h
        at false = if-plain (is_some (further t before false (b ∷ chars))) (carry_bar t past chars c ∷ []) (one-plain (carry_bar t past chars c) (carry_bar-plain past chars c h))

    after-bars-plain : (b : ℕ) (past chars : List ℕ) (c : Cond) → is_of_case c ≡ false → ArePlain (bars_after t before run b past chars c)
    after-bars-plain b past [] c h = refl
    after-bars-plain b past (first ∷ others) c h = if-plain (nat_eq first (fold_of t b)) (bars_past t before run b past others c) (past-plain b past others c h)

    bars-plain : (reads : List ℕ) (r : Rule) → ArePlain (bars_to t before run reads r)
    bars-plain [] r = refl
    bars-plain (b ∷ past) r =
        if-plain (holds (before_of r.place) before) (bars_after t before run b past r.chars (after_of r.place before))
        (after-bars-plain b past r.chars (after_of r.place before) (after-plain r.place before))

    above-plain : (reads : List ℕ) (above : List Rule) → ArePlain (flat_map (bars_to t before run reads) above)
    above-plain reads [] = refl
    above-plain reads (r ∷ above) =
        list_any-append asks (bars_to t before run reads r) (flat_map (bars_to t before run reads) above)
        ∙ ap₂ (λ a b. a || b) (bars-plain reads r) (above-plain reads above)

-- ---- What a form owes

plain-in : (x : Carried) (xs : List Carried) → IsIn x xs → ArePlain xs → asks x ≡ false
plain-in x [] i h = absurd i
plain-in x (y ∷ xs) i h = at (asks y) refl h i (plain-in x xs)
  where
    at : (b : Bool) → asks y ≡ b → (b || list_any asks xs) ≡ false → IsIn x (y ∷ xs) → (IsIn x xs → ArePlain xs → asks x ≡ false) → asks x ≡ false
    at true e k j more = cc
    at false e k (inl same) more = ap asks same ∙ e
    at false e k (inr j) more = more j k

form-after : (t : TableView) (before : Class) (f : CaseForm) → IsForm t before f → is_of_case f.after ≡ false
form-after t before f (inl h) = ap is_of_case h.after ∙ after-plain h.rule.place before
form-after t before f (inr h) = ap is_of_case h.after

need-is : (c d : Cond) → need c ≡ Left (Need d) → c ≡ d
need-is Any d h = cc
need-is (Meets set) d h = cc
need-is (Avoids set) d h = cc

form-next : (t : TableView) (before : Class) (f : CaseForm) → IsForm t before f → further t before f.run f.reads ≡ Some f.next
form-next t before f (inl h) = ap (further t before f.run) h.reads ∙ h.next
form-next t before f (inr h) = ap (further t before f.run) h.reads ∙ h.next

-- of the needs of a capital, or of none, a form owes its own alone
own-need : (t : TableView) (before : Class) (f : CaseForm) → IsForm t before f → (c : Cond) → is_of_case c ≡ true → IsIn (Left (Need c)) (owed t before f) → f.next ≡ c
own-need t before f is c case (inl e) =
    let yes : asks (need f.after) ≡ true = ap asks (sym e) ∙ case in
    let none : asks (need f.after) ≡ false = need-plain f.after (form-after t before f is) in
    cc
own-need t before f is c case (inr (inl e)) = need-is f.next c (sym e)
own-need t before f is c case (inr (inr i)) =
    let none : is_of_case c ≡ false = plain-in (Left (Need c)) (flat_map (bars_to t before f.run f.reads) f.above) i (above-plain t before f.run f.reads f.above) in
    cc

-- ---- In a run and out of one

-- in a run a form then needs a capital, and out of one none
record AreOpposite (next last : Cond) : Type 0 where
  meets : next ≡ Meets uppercase
  avoids : last ≡ Avoids uppercase

opposite : (t : TableView) (before : Class) (reads : List ℕ) (next last : Cond) → further t before true reads ≡ Some next → further t before false reads ≡ Some last → AreOpposite next last
opposite t before [] next last e k = cc
opposite t before (c ∷ others) next last e k = at (has_word_capitals t && is_upper t c) (is_capital before) others e k
  where
    by : (d : Bool) → any_if d ≡ Some next → any_if (not d) ≡ Some last → AreOpposite next last
    by true p q = cc
    by false p q = cc

    at : (w b : Bool) (others : List ℕ) → cond w (cond b (any_if true) (further_by t true others)) (any_if false) ≡ Some next
        → cond w (cond b (any_if false) (further_by t false others)) (any_if true) ≡ Some last → AreOpposite next last
    at false b others p q = cc
    at true true others p q = cc
    at true false [] p q = (let m : Meets uppercase ≡ next = cc in let a : Avoids uppercase ≡ last = cc in record { meets = sym m; avoids = sym a })
    at true false (d ∷ others) p q = by (is_upper t d) p q

-- ---- Steps that become the same

module _ (t : TableView) (s : DuesState) where
  abbrev base : DuesState
  base = base_of t s

  -- a step of the base owes the need of its form
  owes-next : (y : Step DuesState) (h : IsStep t base y) (c : Cond) → h.form.next ≡ c → need c ≡ Left (Need c) → IsIn (Need c) y.next.dues
  owes-next y h c is proper =
      let due = gathered-are (owed t base.before h.form) h.dues h.left in
      let there : IsIn (Left (Need c)) (owed t base.before h.form) = inr (inl (sym (ap need is ∙ proper))) in
      subst (λ (z : Step DuesState). IsIn (Need c) z.next.dues) (sym h.step)
      (Contains-in (Need c) h.dues ((due.each (Need c)).1 (in-Contains (Left (Need c)) (owed t base.before h.form) there)))

  -- of the needs of a capital, or of none, a step of the base has its form's alone
  has-own : (x : Step DuesState) (h : IsStep t base x) (c : Cond) → is_of_case c ≡ true → IsIn (Need c) x.next.dues → h.form.next ≡ c
  has-own x h c case i =
      let due = gathered-are (owed t base.before h.form) h.dues h.left in
      let there = subst (λ (z : Step DuesState). IsIn (Need c) z.next.dues) h.step i in
      own-need t base.before h.form h.is_form c case
      (Contains-in (Left (Need c)) (owed t base.before h.form) ((due.each (Need c)).0 (in-Contains (Need c) h.dues there)))

  -- a step that owes all that another one owes is not of the other's form in another run
  module _ (x y : Step DuesState) (h : IsStep t base x) (k : IsStep t base y) (reads : h.form.reads ≡ k.form.reads) (all : (c : Cond) → IsIn (Need c) y.next.dues → IsIn (Need c) x.next.dues) where
    in-run : h.form.run ≡ true → k.form.run ≡ false → ⊥
    in-run p q =
        let next : further t base.before true h.form.reads ≡ Some h.form.next = ap (λ b. further t base.before b h.form.reads) (sym p) ∙ form-next t base.before h.form h.is_form in
        let last : further t base.before false h.form.reads ≡ Some k.form.next = ap₂ (further t base.before) (sym q) reads ∙ form-next t base.before k.form k.is_form in
        let o = opposite t base.before h.form.reads h.form.next k.form.next next last in
        let no : h.form.next ≡ Avoids uppercase = has-own x h (Avoids uppercase) refl (all (Avoids uppercase) (owes-next y k (Avoids uppercase) o.avoids refl)) in
        let both : Meets uppercase ≡ Avoids uppercase = sym o.meets ∙ no in
        cc

    out-of-run : h.form.run ≡ false → k.form.run ≡ true → ⊥
    out-of-run p q =
        let next : further t base.before true h.form.reads ≡ Some k.form.next = ap₂ (further t base.before) (sym q) reads ∙ form-next t base.before k.form k.is_form in
        let last : further t base.before false h.form.reads ≡ Some h.form.next = ap (λ b. further t base.before b h.form.reads) (sym p) ∙ form-next t base.before h.form h.is_form in
        let o = opposite t base.before h.form.reads k.form.next h.form.next next last in
        let no : h.form.next ≡ Meets uppercase = has-own x h (Meets uppercase) refl (all (Meets uppercase) (owes-next y k (Meets uppercase) o.meets refl)) in
        let both : Avoids uppercase ≡ Meets uppercase = sym o.avoids ∙ no in
        cc

    same-run : h.form.run ≡ k.form.run
    same-run = at h.form.run k.form.run refl refl
      where
        at : (p q : Bool) → h.form.run ≡ p → k.form.run ≡ q → p ≡ q
        at true true e f = refl
        at true false e f = absurd (in-run e f)
        at false true e f = absurd (out-of-run e f)
        at false false e f = refl

  -- the step that another one becomes
  become : (x y : Step DuesState) → IsListed (dues_steps t base) x → IsListed (dues_steps t base) y → (dues : List Due) → x ≡ owing y dues → x ≡ y
  become x y listed also dues e =
      let h = listed-IsStep t base x listed in
      let k = listed-IsStep t base y also in
      let number : h.form.number ≡ k.form.number = ap (λ (z : Step DuesState). z.rule) (sym h.step ∙ e) ∙ ap (λ (z : Step DuesState). z.rule) k.step in
      let reads : h.form.reads ≡ k.form.reads = ap (λ (z : Step DuesState). z.reads) (sym h.step ∙ e) ∙ ap (λ (z : Step DuesState). z.reads) k.step in
      let all = λ (c : Cond) (i : IsIn (Need c) y.next.dues). subst (λ (z : Step DuesState). IsIn (Need c) z.next.dues) (sym e) (in-in_order (Need c) (y.next.dues ++ dues) (in-left (Need c) y.next.dues dues i)) in
      let run = same-run x y h k reads all in
      one-step t base x y h.form k.form h.dues k.dues (one-form t base.before h.form k.form h.is_form k.is_form number reads run) h.left k.left h.step k.step

  from-past : (g : Bool) (x z : Step DuesState) (o : Option (List Due)) → cond g (owing_if x o) [] ≡ z ∷ [] → (dues : List Due) × (o ≡ Some dues) × (z ≡ owing x dues)
  from-past true x z None e = cc
  from-past true x z (Some dues) e = (dues, refl, (let same : owing x dues ≡ z = cc in sym same))
  from-past false x z o e = cc

  pub only-one : (x y z : Step DuesState) → IsListed (dues_steps t base) x → IsListed (dues_steps t base) y → step_past t s x ≡ z ∷ [] → step_past t s y ≡ z ∷ [] → more t (bars s) x ≡ Some [] → x ≡ y
  only-one x y z listed also e k none =
      let v = from-past (opens s (gate_of t x)) x z (more t (bars s) x) e in
      let w = from-past (opens s (gate_of t y)) y z (more t (bars s) y) k in
      let some : Some v.0 ≡ Some [] = sym v.1 ∙ none in
      let nothing : v.0 ≡ [] = cc in
      become x y listed also w.0 (sym (nothing-more t base x listed) ∙ ap (owing x) (sym nothing) ∙ sym v.2 ∙ w.2)
