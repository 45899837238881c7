-- What a step leaves, found part by part.
use Rattle.std.proofs.Common.{◌≡◌, ℕ, Bool, true, false, not, inl, inr, ◌&&◌, List, [], ◌∷◌, ◌++◌, Some, None, is_some, map, refl, sym, ap, ap₂, ◌∙◌, subst, cond, nat_eq, append_assoc, All, IsTrue}
use Rattle.std.proofs.lemmas.Grind.{flat_map-append}
use Rattle.std.proofs.lemmas.List.Elements.{All-append, All-cons, All-head, All-nil, All-tail}
use Rattle.std.proofs.lemmas.List.Folds.{list_all-append}
use Rattle.std.specs.List.{list_all}
use Rattle.brl_rules.specs.declared.class.Class.{Class}
use Rattle.brl_rules.specs.declared.place.Cond.{Cond}
use Rattle.brl_rules.specs.declared.place.Cond.TheVariants.{Any, Meets, Avoids}
use Rattle.brl_rules.specs.Places.{holds}
use Rattle.brl_rules.specs.TableView.{TableView}
use Rattle.brl_rules.specs.Text.{classes_of, fold_of}
use Rattle.brl_dues.specs.declared.carry.Carried.{Carried}
use Rattle.brl_dues.specs.declared.carry.Carried.TheVariants.{Left, Settled}
use Rattle.brl_states.specs.declared.due.Due.{Due}
use Rattle.brl_states.specs.declared.due.Due.TheVariants.{Need, Bar}
use Rattle.brl_dues.specs.Adding.{Adds}
use Rattle.brl_dues.specs.Capitals.{capitals, choices, further, is_upper, put_capital}
use Rattle.brl_dues.specs.Carry.{bars_past, carry, carry_bar, carry_capitals, gathered, is_whole, left_of, lefts, need, opposed, settled_if}
use Rattle.brl_dues.specs.LetterView.{LetterView}
use Rattle.brl_dues.specs.Letters.{bars_of, left_past, left_with}
use Rattle.brl_states.specs.Order.{in_order, is_proper}
use Rattle.brl_dues.proofs.Adding.{barred}
use Rattle.brl_dues.proofs.Forms.{from-put}
use Rattle.brl_pairs.proofs.Listing.{IsIn, from-flat_map}

-- ---- Proper dues

abbrev pub AllProper : List Due → Type 0
AllProper dues = All (λ due. IsTrue (is_proper due)) dues

none-proper : AllProper []
none-proper = All-nil (λ due. IsTrue (is_proper due))

one-proper : (d : Due) → is_proper d ≡ true → AllProper (d ∷ [])
one-proper d h = All-cons (λ due. IsTrue (is_proper due)) d [] h none-proper

append-proper : (xs ys : List Due) → AllProper xs → AllProper ys → AllProper (xs ++ ys)
append-proper xs ys h k = All-append (λ due. IsTrue (is_proper due)) xs ys h k

opposed-proper : (c : Cond) → AllProper (left_of (opposed c))
opposed-proper Any = none-proper
opposed-proper (Meets set) = one-proper (Need (Avoids set)) refl
opposed-proper (Avoids set) = one-proper (Need (Meets set)) refl

settled-proper : (b : Bool) → AllProper (left_of (settled_if b))
settled-proper true = none-proper
settled-proper false = none-proper

either-proper : (b : Bool) (c : Carried) → AllProper (left_of c) → AllProper (left_of (cond b c Settled))
either-proper true c h = h
either-proper false c h = none-proper

need-proper : (c : Cond) → AllProper (left_of (need c))
need-proper Any = none-proper
need-proper (Meets set) = one-proper (Need (Meets set)) refl
need-proper (Avoids set) = one-proper (Need (Avoids set)) refl

-- dues that are left, as they are carried
left-whole : (left : List Due) → list_all is_whole (map Left left) ≡ true
left-whole [] = refl
left-whole (d ∷ left) = left-whole left

left-lefts : (left : List Due) → lefts (map Left left) ≡ left
left-lefts [] = refl
left-lefts (d ∷ left) = ap (λ l. d ∷ l) (left-lefts left)

module _ (t : TableView) where
  carry_bar-proper : (past chars : List ℕ) (c : Cond) → AllProper (left_of (carry_bar t past chars c))
  carry_bar-proper [] [] c = opposed-proper c
  carry_bar-proper [] (a ∷ chars) c = one-proper (Bar (a ∷ chars) c) refl
  carry_bar-proper (b ∷ past) [] c = settled-proper _
  carry_bar-proper (b ∷ past) (a ∷ chars) c = either-proper (nat_eq a b) (carry_bar t past chars c) (carry_bar-proper past chars c)

  carry-proper : (past : List ℕ) (d : Due) → is_proper d ≡ true → AllProper (left_of (carry t past d))
  carry-proper [] (Need c) h = one-proper (Need c) h
  carry-proper (b ∷ past) (Need c) h = settled-proper (holds c (classes_of t b))
  carry-proper past (Bar [] c) h = none-proper
  carry-proper past (Bar (a ∷ chars) c) h = carry_bar-proper past (a ∷ chars) c

  carried-proper : (past : List ℕ) (dues : List Due) → AllProper dues → AllProper (lefts (map (carry t past) dues))
  carried-proper past [] h = none-proper
  carried-proper past (d ∷ dues) h =
      append-proper (left_of (carry t past d)) (lefts (map (carry t past) dues)) (carry-proper past d (All-head (λ due. IsTrue (is_proper due)) d dues h))
      (carried-proper past dues (All-tail (λ due. IsTrue (is_proper due)) d dues h))

  pub past-proper : (past : List ℕ) (dues new : List Due) → AllProper dues → Adds (map (carry t past) dues) [] new true → AllProper new
  past-proper past dues new h adds = subst AllProper (sym (adds.found refl)) (carried-proper past dues h)

  -- ---- The bars of the rules above

  abbrev AllLeftProper : List Carried → Type 0
  AllLeftProper carried = AllProper (lefts carried)

  choices-proper : (c : Cond) (texts : List (List ℕ)) → ((text : List ℕ) → IsIn text texts → is_proper (Bar text c) ≡ true) → AllLeftProper (map (barred c) texts)
  choices-proper c [] h = none-proper
  choices-proper c (text ∷ texts) h = append-proper (Bar text c ∷ []) (lefts (map (barred c) texts)) (one-proper (Bar text c) (h text (inl refl))) (choices-proper c texts (λ x i. h x (inr i)))

  choice-proper : (a : ℕ) (chars : List ℕ) (c : Cond) (text : List ℕ) → IsIn text (choices t (a ∷ chars)) → is_proper (Bar text c) ≡ true
  choice-proper a chars c text h =
      let m = from-flat_map (put_capital t a (choices t chars)) text (capitals t) h in
      let w = from-put t a (choices t chars) m.0 text m.2 in
      ap (λ l. is_proper (Bar l c)) w.1.2

  if-proper : (b : Bool) (carried : List Carried) → AllLeftProper carried → AllLeftProper (cond b carried [])
  if-proper true carried h = h
  if-proper false carried h = none-proper

  one-left : (k : Carried) → AllProper (left_of k) → AllLeftProper (k ∷ [])
  one-left k h = append-proper (left_of k) [] h none-proper

  carry_capitals-proper : (past chars : List ℕ) (c : Cond) → AllLeftProper (carry_capitals t past chars c)
  carry_capitals-proper [] [] c = one-left (opposed c) (opposed-proper c)
  carry_capitals-proper [] (a ∷ chars) c = choices-proper c (choices t (a ∷ chars)) (choice-proper a chars c)
  carry_capitals-proper (b ∷ past) [] c = one-left (settled_if (not (holds c (classes_of t b)))) (settled-proper _)
  carry_capitals-proper (b ∷ past) (a ∷ chars) c = if-proper (is_upper t b && nat_eq a (fold_of t b)) (carry_capitals t past chars c) (carry_capitals-proper past chars c)

  bars_past-proper : (before : Class) (run : Bool) (b : ℕ) (past chars : List ℕ) (c : Cond) → AllLeftProper (bars_past t before run b past chars c)
  bars_past-proper before true b past chars c = carry_capitals-proper past chars c
  bars_past-proper before false b past chars c =
      if-proper (is_some (further t before false (b ∷ chars))) (carry_bar t past chars c ∷ []) (one-left (carry_bar t past chars c) (carry_bar-proper past chars c))

  bars-proper : (before : Class) (run : Bool) (b : ℕ) (others : List ℕ) (above : List (List ℕ × Cond)) → AllLeftProper (bars_of t before run b others above)
  bars-proper before run b others [] = none-proper
  bars-proper before run b others (a ∷ above) =
      let one = bars_past t before run b others a.0 a.1 in
      let more = bars_of t before run b others above in
      subst AllProper (sym (flat_map-append left_of one more))
      (append-proper (lefts one) (lefts more) (bars_past-proper before run b others a.0 a.1) (bars-proper before run b others above))

  left_with-proper : (before : Class) (left : List Due) (l : LetterView) (run : Bool) (next : Cond) (others : List ℕ) (after : Cond) → AllProper left
      → AllProper (lefts (left_with t before left l run next others after))
  left_with-proper before left l run next others after h =
      let bars = bars_of t before run l.character others l.above in
      subst AllProper (sym (flat_map-append left_of (map Left left) (need after ∷ need next ∷ bars)))
      (append-proper (lefts (map Left left)) (lefts (need after ∷ need next ∷ bars)) (subst AllProper (sym (left-lefts left)) h)
      (append-proper (left_of (need after)) (lefts (need next ∷ bars)) (need-proper after)
      (append-proper (left_of (need next)) (lefts bars) (need-proper next) (bars-proper before run l.character others l.above))))

-- ---- Part by part

adds-both : (xs ys : List Carried) (old mid new : List Due) (w : Bool) → Adds xs old mid true → Adds ys mid new w → Adds (xs ++ ys) old new w
adds-both xs ys old mid new w h k = record {
  whole_is = k.whole_is ∙ ap (λ b. b && list_all is_whole ys) h.whole_is ∙ sym (list_all-append is_whole xs ys);
  found = λ e. k.found e ∙ ap (λ l. l ++ lefts ys) (h.found refl) ∙ append_assoc old (lefts xs) (lefts ys) ∙ ap (λ l. old ++ l) (sym (flat_map-append left_of xs ys));
}

gathered-none : (xs : List Carried) (old new : List Due) → Adds xs old new false → gathered xs ≡ None
gathered-none xs old new h = ap (λ b. cond b (Some (in_order (lefts xs))) None) (sym h.whole_is)

gathered-some : (xs : List Carried) (new : List Due) → Adds xs [] new true → gathered xs ≡ Some (in_order new)
gathered-some xs new h = ap₂ (λ b (l : List Due). cond b (Some (in_order l)) None) (sym h.whole_is) (sym (h.found refl))

-- ---- The old dues

module _ (t : TableView) (past : List ℕ) (dues : List Due) (ys : List Carried) where
  -- what is left of the old dues may stand for them
  pub gathered-left : (left : List Due) → left_past t past dues ≡ Some left → gathered (map (carry t past) dues ++ ys) ≡ gathered (map Left left ++ ys)
  gathered-left left e =
      let old = map (carry t past) dues in
      let is = left-of (list_all is_whole old) (lefts old) e in
      ap₂ (λ b (l : List Due). cond b (Some (in_order l)) None)
      (list_all-append is_whole old ys ∙ ap (λ b. b && list_all is_whole ys) (is.0 ∙ sym (left-whole left)) ∙ sym (list_all-append is_whole (map Left left) ys))
      (flat_map-append left_of old ys ∙ ap (λ l. l ++ lefts ys) (is.1 ∙ sym (left-lefts left)) ∙ sym (flat_map-append left_of (map Left left) ys))
    where
      left-of : (b : Bool) (l : List Due) → cond b (Some l) None ≡ Some left → (b ≡ true) × (l ≡ left)
      left-of true l h = (refl, (cc))
      left-of false l h = cc

  pub gathered-broken : left_past t past dues ≡ None → gathered (map (carry t past) dues ++ ys) ≡ None
  gathered-broken e =
      let old = map (carry t past) dues in
      ap (λ b. cond b (Some (in_order (lefts (old ++ ys)))) None) (list_all-append is_whole old ys ∙ ap (λ b. b && list_all is_whole ys) (broken (list_all is_whole old) (lefts old) e))
    where
      broken : (b : Bool) (l : List Due) → cond b (Some l) None ≡ None → b ≡ false
      broken true l h = cc
      broken false l h = refl

-- the parts that a step finds: what is left of the old dues, the needs of its after-condition and
-- of what must follow, and the bars of the rules above
module _ (t : TableView) (before : Class) (l : LetterView) (run : Bool) (next : Cond) (others : List ℕ) (after : Cond) (left : List Due) where
  -- what is left of the old dues; with the first need; and with the second
  abbrev parts-1 : List Carried
  parts-1 = map Left left

  abbrev parts-2 : List Carried
  parts-2 = parts-1 ++ need after ∷ []

  abbrev parts-3 : List Carried
  parts-3 = parts-2 ++ need next ∷ []

  whole : parts-3 ++ bars_of t before run l.character others l.above ≡ left_with t before left l run next others after
  whole = append_assoc parts-2 (need next ∷ []) (bars_of t before run l.character others l.above) ∙ append_assoc parts-1 (need after ∷ []) (need next ∷ bars_of t before run l.character others l.above)

  first : Adds parts-1 [] left true
  first = record { whole_is = sym (left-whole left); found = λ _. sym (left-lefts left) }

  module _ (two : List Due) (needs : Adds (need after ∷ []) left two true) (three : List Due) (nexts : Adds (need next ∷ []) two three true)
      (c : ℕ) (same_character : c ≡ l.character) (above : List (List ℕ × Cond)) (same_above : above ≡ l.above) (four : List Due) (y : Bool) (bars : Adds (bars_of t before run c others above) three four y) where
    fourth : Adds (left_with t before left l run next others after) [] four y
    fourth =
        let second = adds-both parts-1 (need after ∷ []) [] left two true first needs in
        let third = adds-both parts-2 (need next ∷ []) [] two three true second nexts in
        subst (λ z. Adds z [] four y) whole
        (adds-both parts-3 (bars_of t before run l.character others l.above) [] three four y third
        (subst (λ a. Adds (bars_of t before run l.character others a) three four y) same_above
        (subst (λ b. Adds (bars_of t before run b others above) three four y) same_character bars)))

    pub bars-broken : y ≡ false → gathered (left_with t before left l run next others after) ≡ None
    bars-broken k = gathered-none (left_with t before left l run next others after) [] four (subst (Adds (left_with t before left l run next others after) [] four) k fourth)

    pub none-broken : y ≡ true → gathered (left_with t before left l run next others after) ≡ Some (in_order four)
    none-broken k = gathered-some (left_with t before left l run next others after) four (subst (Adds (left_with t before left l run next others after) [] four) k fourth)

    pub found-proper : y ≡ true → AllProper left → AllProper four
    found-proper k h = subst AllProper (sym (fourth.found k)) (left_with-proper t before left l run next others after h)
