-- What the states of a dues machine share, as any machine with bases says it.
use Rattle.std.proofs.Common.{◌≡◌, ℕ, zero, suc, ◌+◌, ◌-◌, ◌<◌, ◌≤◌, Bool, true, false, All, IsTrue, List, [], ◌∷◌, ◌++◌, Option, Some, None, ap, ap₂, arith, cond, drop, filter, flat_map, get_or, inl, inr, length, map, nat_eq, refl, slice_get, subst, sym, ◌∙◌}
use Rattle.std.proofs.lemmas.Bool.{eqb-true}
use Rattle.std.proofs.lemmas.List.{get_or-drop, length-map, length-drop, take_all}
use Rattle.std.proofs.lemmas.List.Elements.{All-filter, All-get_or, All-map, All-weaker}
use Rattle.std.proofs.lemmas.List.FromFn.{get_or-range_with_len, length-range_with_len}
use Rattle.std.specs.List.{range_with_len}
use Rattle.std.specs.List.Sorted.{IsPartitionPoint}
use Rattle.std.specs.Prelude.{option_map}
use Rattle.brl_pairs.specs.Based.{KeepsSharing, firsts, meeting, with_more, with_past}
use Rattle.brl_pairs.specs.Based.{step_past as shared_past}
use Rattle.brl_pairs.specs.Order.{at, is_around}
use Rattle.brl_pairs.specs.Runs.{IsListed}
use Rattle.brl_pairs.specs.declared.based.Past.TheVariants.{Broken, More, Same}
use Rattle.brl_pairs.specs.declared.step.Step.{Step}
use Rattle.brl_pairs.proofs.Listing.{IsIn, in-append, in-at, in-left, in-right}
use Rattle.brl_rules.specs.declared.place.Cond.TheVariants.{Any}
use Rattle.brl_rules.specs.TableView.{TableView}
use Rattle.brl_states.specs.contracts.dues_state.DuesStatePartialEq.TheImpl.{eq-value}
use Rattle.brl_states.specs.declared.due.Due.{Due}
use Rattle.brl_states.specs.declared.due.Due.TheVariants.{Need, Bar}
use Rattle.brl_states.specs.declared.dues_state.DuesState.{DuesState}
use Rattle.brl_states.specs.Order.{AreDues, due_chars, in_order, is_proper}
use Rattle.brl_states.proofs.DueOrder.{from-in_order, in-in_order, in_order-sorted, is-in_order}
use Rattle.brl_states.proofs.Kept.{Keeps}
use Rattle.brl_dues.specs.Carry.{carry}
use Rattle.brl_dues.specs.Contexts.{bars, base_of, gate_of, is_bar, meets, more, new_to, opens, owing, owing_if, step_past}
use Rattle.brl_dues.specs.Letters.{first_of, left_past}
use Rattle.brl_dues.specs.Sharing.{bar_chars, dues_sharing, past_bars, past_by}
use Rattle.brl_dues.specs.Steps.{dues_machine, dues_steps, with_step, with_steps}
use Rattle.brl_dues.proofs.BecomeSame.{only-one}
use Rattle.brl_dues.proofs.Intervals.{filter-from, filter-upto}
use Rattle.brl_dues.proofs.Meeting.{meeting as met-alike, nothing-more}
use Rattle.brl_dues.proofs.OfBase.{steps-past}

-- ---- Bars come last

no-bar : (due : Due) → is_proper due ≡ true → nat_eq (first_of due) 0 ≡ true → is_bar due ≡ false
no-bar (Need c) proper first = refl
no-bar (Bar [] c) proper first = cc
no-bar (Bar (a ∷ chars) c) proper first = (let e : nat_eq (a + 1) 0 ≡ true = first in let n : a + 1 ≡ 0 = eqb-true (a + 1) 0 e in absurd (omega (arith, n)))

a-bar : (due : Due) → nat_eq (first_of due) 0 ≡ false → is_bar due ≡ true
a-bar (Need c) first = cc
a-bar (Bar chars c) first = refl

pub bars-last : (dues : List Due) (k : ℕ) → AreDues dues → k ≤ length dues → IsPartitionPoint (λ d. nat_eq (first_of d) 0 ≡ true) (λ d. nat_eq (first_of d) 0 ≡ false) dues k → filter is_bar dues ≡ drop k dues
bars-last dues k are within point =
    filter-from is_bar dues k (λ j d low below. no-bar (get_or dues j d) (All-get_or (λ due. IsTrue (is_proper due)) dues j d (omega (arith, below, within)) are.proper) (point.0 j d low below))
    ∙ filter-upto is_bar (drop k dues) (length (drop k dues)) (omega arith)
    (λ j d low below.
    let size = length-drop k dues in
    subst (λ (due : Due). is_bar due ≡ true) (sym (get_or-drop k dues j d)) (a-bar (get_or dues (k + j) d) (point.1 (k + j) d (omega arith) (omega (arith, below, size, within)))))
    (λ j d low below. absurd (omega (arith, low, below)))
    ∙ take_all (length (drop k dues)) (drop k dues) (omega arith)

-- each bar is one
pub bar-there : (dues : List Due) (n : ℕ) (due : Due) → slice_get (filter is_bar dues) n ≡ Some due → is_bar due ≡ true
bar-there [] n due there = cc
bar-there (Need d ∷ dues) n due there = bar-there dues n due there
bar-there (Bar chars d ∷ dues) zero due there = (let same : Bar chars d ≡ due = cc in ap is_bar (sym same))
bar-there (Bar chars d ∷ dues) (suc n) due there = bar-there dues n due there

-- ---- The bars that meet it, by their numbers

range-next : (n a : ℕ) → range_with_len (suc a) n ≡ map (λ k. suc k) (range_with_len a n)
range-next zero a = refl
range-next (suc n) a = ap (λ l. suc a ∷ l) (ap (λ k. range_with_len k n) (let e : suc a + 1 ≡ suc (a + 1) = omega arith in e) ∙ range-next n (a + 1))

module _ {X : Type 0} (f : X → List ℕ) (test : List ℕ → Bool) (d : X) where
  filter-after : (p : ℕ → Bool) (ns : List ℕ) → filter p (map (λ k. suc k) ns) ≡ map (λ k. suc k) (filter (λ k. p (suc k)) ns)
  filter-after p [] = refl
  filter-after p (n ∷ ns) = by (p (suc n)) _ (filter (λ k. p (suc k)) ns) (filter-after p ns)
    where
      by : (b : Bool) (xs ys : List ℕ) → xs ≡ map (λ k. suc k) ys → cond b (suc n ∷ xs) xs ≡ map (λ k. suc k) (cond b (n ∷ ys) ys)
      by true xs ys e = ap (λ l. suc n ∷ l) e
      by false xs ys e = e

  read-after : (x : X) (xs : List X) (ns : List ℕ) → map (λ n. get_or (x ∷ xs) n d) (map (λ k. suc k) ns) ≡ map (λ n. get_or xs n d) ns
  read-after x xs [] = refl
  read-after x xs (n ∷ ns) = ap (λ l. get_or xs n d ∷ l) (read-after x xs ns)

  -- what a test keeps of a list is what is at the places that it keeps
  pub kept-at : (xs : List X) → map (λ n. get_or xs n d) (filter (λ n. test (at (map f xs) n)) (range_with_len 0 (length (map f xs)))) ≡ filter (λ x. test (f x)) xs
  kept-at [] = refl
  kept-at (x ∷ xs) =
      ap (λ l. map (λ n. get_or (x ∷ xs) n d) (cond (test (f x)) (0 ∷ filter place l) (filter place l))) (range-next (length (map f xs)) 0)
      ∙ ap (λ l. map (λ n. get_or (x ∷ xs) n d) (cond (test (f x)) (0 ∷ l) l)) (filter-after place (range_with_len 0 (length (map f xs))))
      ∙ by (test (f x)) (map (λ k. suc k) (filter (λ n. test (at (map f xs) n)) (range_with_len 0 (length (map f xs))))) (filter (λ y. test (f y)) xs)
      (read-after x xs (filter (λ n. test (at (map f xs) n)) (range_with_len 0 (length (map f xs)))) ∙ kept-at xs)
    where
      place : ℕ → Bool
      place n = test (at (map f (x ∷ xs)) n)

      by : (b : Bool) (ns : List ℕ) (ys : List X) → map (λ n. get_or (x ∷ xs) n d) ns ≡ ys → map (λ n. get_or (x ∷ xs) n d) (cond b (0 ∷ ns) ns) ≡ cond b (x ∷ ys) ys
      by true ns ys e = ap (λ l. x ∷ l) e
      by false ns ys e = e

-- the numbers are those of bars
pub met-within : (chars : List (List ℕ)) (reads : List ℕ) → All (λ n. n < length chars) (meeting chars reads)
met-within chars reads =
    All-filter (λ n. is_around (at chars n) reads) (λ n. n < length chars) (range_with_len 0 (length chars))
    (λ i d lt. let size = length-range_with_len 0 (length chars) in let is = get_or-range_with_len 0 (length chars) i d (omega (arith, lt, size)) in omega (arith, lt, size, is))

-- what is left of bars that are read by their numbers
pub carried-by-number : (t : TableView) (reads : List ℕ) (dues : List Due) (d : Due) (ns : List ℕ) → map (λ n. carry t reads (get_or dues n d)) ns ≡ map (carry t reads) (map (λ n. get_or dues n d) ns)
carried-by-number t reads dues d [] = refl
carried-by-number t reads dues d (n ∷ ns) = ap (λ l. carry t reads (get_or dues n d) ∷ l) (carried-by-number t reads dues d ns)

pub read-proper : (dues : List Due) (d : Due) (ns : List ℕ) → All (λ due. IsTrue (is_proper due)) dues → All (λ n. n < length dues) ns → All (λ due. IsTrue (is_proper due)) (map (λ n. get_or dues n d) ns)
read-proper dues d ns proper within =
    All-map (λ due. IsTrue (is_proper due)) (λ n. get_or dues n d) ns
    (All-weaker (λ n. n < length dues) (λ n. IsTrue (is_proper (get_or dues n d))) (λ n less. All-get_or (λ due. IsTrue (is_proper due)) dues n d less proper) ns within)

-- those that meet it among bars
met-bars : (reads : List ℕ) (dues : List Due) → filter (λ due. is_around (due_chars due) reads) (filter is_bar dues) ≡ filter (meets reads) (filter is_bar dues)
met-bars reads [] = refl
met-bars reads (Need c ∷ dues) = met-bars reads dues
met-bars reads (Bar chars c ∷ dues) = ap (λ l. cond (is_around chars reads) (Bar chars c ∷ l) l) (met-bars reads dues)

-- what all bars leave is what those that meet it leave, which are read by their numbers
pub left-by-met : (t : TableView) (s : DuesState) (reads : List ℕ) (d : Due) → left_past t reads (map (λ n. get_or (bars s) n d) (meeting (bar_chars s) reads)) ≡ left_past t reads (bars s)
left-by-met t s reads d =
    ap (left_past t reads) (kept-at due_chars (λ chars. is_around chars reads) d (bars s) ∙ met-bars reads s.dues)
    ∙ sym (let k = met-alike t reads s.dues in ap₂ (λ b (l : List Due). cond b (Some l) None) k.0 k.1)

pub met-bars-within : (s : DuesState) (reads : List ℕ) → All (λ n. n < length (bars s)) (meeting (bar_chars s) reads)
met-bars-within s reads = subst (λ (k : ℕ). All (λ n. n < k) (meeting (bar_chars s) reads)) (length-map (bars s) due_chars) (met-within (bar_chars s) reads)

pub no-items : (dues : List Due) → length dues ≡ 0 → dues ≡ []
no-items [] h = refl
no-items (due ∷ dues) h = absurd (omega (arith, h))

-- what is found is what is past
module _ (t : TableView) (s next : DuesState) (reads : List ℕ) where
  pub broken-by : None ≡ left_past t reads (bars s) → Broken ≡ past_bars t s reads next
  broken-by h = ap (λ o. past_by (option_map (new_to next.dues) o)) h

  pub same-by : (left : List Due) → Some left ≡ left_past t reads (bars s) → new_to next.dues left ≡ [] → Same ≡ past_bars t s reads next
  same-by left h none = ap (λ l. past_by (Some l)) (sym none) ∙ ap (λ o. past_by (option_map (new_to next.dues) o)) h

  some-more : (left : List Due) → (left ≡ [] → ⊥) → More (in_order left) ≡ past_by (Some left)
  some-more [] some = absurd (some refl)
  some-more (due ∷ left) some = refl

  pub more-by : (left : List Due) → Some left ≡ left_past t reads (bars s) → (new_to next.dues left ≡ [] → ⊥) → More (in_order (new_to next.dues left)) ≡ past_bars t s reads next
  more-by left h some = some-more (new_to next.dues left) some ∙ ap (λ o. past_by (option_map (new_to next.dues) o)) h

-- where none meets it, nothing is left
pub free : (t : TableView) (s next : DuesState) (reads : List ℕ) → meeting (bar_chars s) reads ≡ [] → past_bars t s reads next ≡ Same
free t s next reads none =
    ap (λ o. past_by (option_map (new_to next.dues) o)) (sym (left-by-met t s reads (Bar [] Any)) ∙ ap (λ ns. left_past t reads (map (λ n. get_or (bars s) n (Bar [] Any)) ns)) none)

-- ---- The same steps

-- dues that are put in order before
ordered-before : (xs ys : List Due) → in_order (xs ++ in_order ys) ≡ in_order (xs ++ ys)
ordered-before xs ys =
    is-in_order (in_order (xs ++ in_order ys)) (xs ++ ys) (in_order-sorted (xs ++ in_order ys))
    (λ d i. elim (in-append d xs (in_order ys) (from-in_order d (xs ++ in_order ys) i)) [ inl k ↦ in-left d xs ys k | inr k ↦ in-right d xs ys (from-in_order d ys k) ])
    (λ d i. in-in_order d (xs ++ in_order ys) (elim (in-append d xs ys i) [ inl k ↦ in-left d xs (in_order ys) k | inr k ↦ in-right d xs (in_order ys) (in-in_order d ys k) ]))

module _ (t : TableView) (s : DuesState) where
  past-step : (x : Step DuesState) (o : Option (List Due)) → owing x [] ≡ x → with_past (dues_sharing t) x (past_by o) ≡ owing_if x o
  past-step x None e = refl
  past-step x (Some []) e = ap (λ (y : Step DuesState). y ∷ []) (sym e)
  past-step x (Some (due ∷ dues)) e = ap (λ (l : List Due). record x { next = record x.next { dues = l } } ∷ []) (ordered-before x.next.dues (due ∷ dues))

  pub one-past : (x : Step DuesState) → IsListed (dues_steps t (base_of t s)) x → shared_past (dues_sharing t) s x ≡ step_past t s x
  one-past x listed = ap (λ l. cond (opens s (gate_of t x)) l []) (past-step x (more t (bars s) x) (nothing-more t (base_of t s) x listed))

  -- the same of each of a list
  all-past : (f g : Step DuesState → List (Step DuesState)) (steps : List (Step DuesState)) → ((x : Step DuesState) → IsIn x steps → f x ≡ g x) → flat_map f steps ≡ flat_map g steps
  all-past f g [] same = refl
  all-past f g (x ∷ steps) same = ap₂ (λ a b. a ++ b) (same x (inl refl)) (all-past f g steps (λ y i. same y (inr i)))

  same-firsts : (rest steps : List (Step DuesState)) → with_steps steps rest ≡ with_more eq-value.it steps rest
  same-firsts [] steps = refl
  same-firsts (x ∷ rest) steps = same-firsts rest (with_step steps x)

  pub same-steps : Keeps t → dues_steps t s ≡ firsts eq-value.it (flat_map (shared_past (dues_sharing t) s) (dues_steps t (base_of t s)))
  same-steps keeps =
      let steps = dues_steps t (base_of t s) in
      steps-past t keeps s
      ∙ same-firsts (flat_map (step_past t s) steps) []
      ∙ ap (firsts eq-value.it) (all-past (step_past t s) (shared_past (dues_sharing t) s) steps (λ x i. sym (one-past x (in-at x steps i))))

  -- where nothing is left that isn't owed anyway
  none-more : (o : Option (List Due)) → past_by o ≡ Same → o ≡ Some []
  none-more None h = cc
  none-more (Some []) h = refl
  none-more (Some (due ∷ dues)) h = cc

  pub kept-apart : (x y z : Step DuesState) → IsListed (dues_steps t (base_of t s)) x → IsListed (dues_steps t (base_of t s)) y → shared_past (dues_sharing t) s x ≡ z ∷ [] → shared_past (dues_sharing t) s y ≡ z ∷ []
      → past_bars t s x.reads x.next ≡ Same → x ≡ y
  kept-apart x y z listed also e k none = only-one t s x y z listed also (sym (one-past x listed) ∙ e) (sym (one-past y also) ∙ k) (none-more (more t (bars s) x) none)

pub keeps-sharing : (t : TableView) → Keeps t → KeepsSharing eq-value.it (dues_machine t) (dues_sharing t)
keeps-sharing t keeps = record {
  steps = λ s base is. subst (λ (b : DuesState). dues_steps t s ≡ firsts eq-value.it (flat_map (shared_past (dues_sharing t) s) (dues_steps t b))) (of-some is) (same-steps t s keeps);
  free = λ s next reads none. free t s next reads none;
  apart = λ s base x y z is listed also e k none.
      kept-apart t s x y z (subst (λ (b : DuesState). IsListed (dues_steps t b) x) (sym (of-some is)) listed) (subst (λ (b : DuesState). IsListed (dues_steps t b) y) (sym (of-some is)) also) e k none;
}
  where
    of-some : {a b : DuesState} → Some a ≡ Some b → a ≡ b
    of-some e = cc
