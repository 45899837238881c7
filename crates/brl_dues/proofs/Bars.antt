-- The bars of a state that begin with a character stand together, and what a step that reads the
-- character first leaves of the state's dues is what it leaves of these.
use Rattle.std.proofs.Common.{◌≡◌, ℕ, zero, suc, ◌+◌, ◌-◌, ◌<◌, ◌≤◌, Bool, true, false, ◌&&◌, IsTrue, List, [], ◌∷◌, ◌++◌, Some, None, length, map, filter, take, drop, get_or, refl, sym, ap, ap₂, ◌∙◌, cond, nat_eq, arith, leb, leb-true}
use Rattle.std.proofs.lemmas.Bool.{eq-eqb, leb-false, ne_eqb, eqb-true}
use Rattle.std.proofs.lemmas.List.Elements.{All-filter}
use Rattle.std.proofs.lemmas.List.Kept.{IsStrictlySortedBy-filter}
use Rattle.std.proofs.lemmas.List.Sorted.{IsNonDecreasingBy-drop, IsNonDecreasingBy-take}
use Rattle.std.specs.Cmp.{first_so, nat_cmp_is, second_so}
use Rattle.std.specs.Cmp.Lexicographic.{slice_cmp}
use Rattle.std.specs.Ordering.{nat_cmp, ordering_then}
use Rattle.std.specs.List.{AllByRecursion, list_all}
use Rattle.std.specs.List.Sorted.{IsNonDecreasingBy, IsPartitionedBy, IsPartitionPoint, IsStrictlySortedBy}
use Rattle.std.specs.declared.cmp.Ordering.TheVariants.{Less, Greater}
use Rattle.brl_rules.specs.Places.{holds}
use Rattle.brl_rules.specs.TableView.{TableView}
use Rattle.brl_rules.specs.Text.{classes_of}
use Rattle.brl_dues.specs.declared.carry.Carried.{Carried}
use Rattle.brl_dues.specs.declared.carry.Carried.TheVariants.{Settled}
use Rattle.brl_states.specs.declared.due.Due.{Due}
use Rattle.brl_states.specs.declared.due.Due.TheVariants.{Need, Bar}
use Rattle.brl_dues.specs.Carry.{carry, carry_bar, gathered, is_whole, left_of, lefts, settled_if}
use Rattle.brl_dues.specs.Letters.{bars_from, first_of, lets_in, may_come}
use Rattle.brl_dues.proofs.Intervals.{all-upto, filter-between}
use Rattle.brl_states.specs.Order.{AreDues, cond_cmp, due_cmp, in_order, is_proper}

-- ---- No other due matters

module _ (t : TableView) (c : ℕ) (others : List ℕ) (ys : List Carried) where
  abbrev past : List Due → List Carried
  past dues = map (carry t (c ∷ others)) dues ++ ys

  abbrev bars : List Due → List Due
  bars dues = filter (bars_from c) dues

  -- none is broken in both lists or in neither, and the same is left
  abbrev Alike : List Carried → List Carried → Type 0
  Alike xs zs = (list_all is_whole xs ≡ list_all is_whole zs) × (lefts xs ≡ lefts zs)

  settled : (b : Bool) → b ≡ true → (xs zs : List Carried) → Alike xs zs → Alike (settled_if b ∷ xs) zs
  settled true h xs zs a = a
  settled false h xs zs a = cc

  more : (x z : Carried) → x ≡ z → (xs zs : List Carried) → Alike xs zs → Alike (x ∷ xs) (z ∷ zs)
  more x z e xs zs a = (ap₂ (λ w ws. w && ws) (ap is_whole e) a.0, ap₂ (λ l ls. l ++ ls) (ap left_of e) a.1)

  bars-alike : (dues : List Due) → may_come t dues c ≡ true → Alike (past dues) (past (bars dues))
  bars-alike [] h = (refl, refl)
  bars-alike (Need next ∷ dues) h =
      settled (holds next (classes_of t c)) (first_so (holds next (classes_of t c)) (may_come t dues c) h) (past dues) (past (bars dues))
      (bars-alike dues (second_so (holds next (classes_of t c)) (may_come t dues c) h))
  bars-alike (Bar [] after ∷ dues) h = bars-alike dues h
  bars-alike (Bar (a ∷ chars) after ∷ dues) h = at (nat_eq a c) refl (bars-alike dues h)
    where
      at : (b : Bool) → nat_eq a c ≡ b → Alike (past dues) (past (bars dues))
          → Alike (cond b (carry_bar t others chars after) Settled ∷ past dues) (past (cond b (Bar (a ∷ chars) after ∷ bars dues) (bars dues)))
      at true e alike =
          more (carry_bar t others chars after) (carry t (c ∷ others) (Bar (a ∷ chars) after)) (ap (λ b. cond b (carry_bar t others chars after) Settled) (sym e)) (past dues) (past (bars dues)) alike
      at false e alike = alike

  pub bars-alone : (dues : List Due) → may_come t dues c ≡ true → gathered (past dues) ≡ gathered (past (bars dues))
  bars-alone dues h = (let e = bars-alike dues h in ap₂ (λ b (l : List Due). cond b (Some (in_order l)) None) e.0 e.1)

-- ---- They stand together

bar-later : (x y : Due) → due_cmp x y ≡ Less → first_of x ≤ first_of y
bar-later (Need p) y h = omega arith
bar-later (Bar [] p) y h = omega arith
bar-later (Bar (a ∷ chars) p) (Need q) h = cc
bar-later (Bar (a ∷ chars) p) (Bar [] q) h = cc
bar-later (Bar (a ∷ chars) p) (Bar (b ∷ others) q) h = at (leb a b) refl
  where
    at : (o : Bool) → leb a b ≡ o → a + 1 ≤ b + 1
    at true e = (let le = leb-true a b e in omega (arith, le))
    at false e =
        let greater : Greater ≡ nat_cmp a b = nat_cmp_is a b Greater (leb-false a b e) in
        let no : Greater ≡ Less = ap (λ o. ordering_then (ordering_then o (slice_cmp nat_cmp chars others)) (cond_cmp p q)) greater ∙ h in
        cc

all-later : (x : Due) (dues : List Due) (j : ℕ) (d : Due) → AllByRecursion (λ y. due_cmp x y ≡ Less) dues → j < length dues → first_of x ≤ first_of (get_or dues j d)
all-later x [] j d h k = absurd (omega (arith, k))
all-later x (y ∷ dues) zero d h k = bar-later x y h.0
all-later x (y ∷ dues) (suc j) d h k = all-later x dues j d h.1 (omega (arith, k))

rising : (dues : List Due) → IsStrictlySortedBy due_cmp dues → IsNonDecreasingBy first_of dues
unfolding IsStrictlySortedBy
rising [] h i j d le k = absurd (omega (arith, k))
rising (x ∷ dues) h zero zero d le k = omega arith
rising (x ∷ dues) h zero (suc j) d le k = all-later x dues j d h.0 (omega (arith, k))
rising (x ∷ dues) h (suc i) zero d le k = absurd (omega (arith, le))
rising (x ∷ dues) h (suc i) (suc j) d le k = rising dues h.1 i j d (omega (arith, le)) (omega (arith, k))

pub dues-rise : (dues : List Due) → AreDues dues → IsNonDecreasingBy first_of dues
dues-rise dues h = rising dues h.ascend

pub rest-rise : (dues : List Due) (i : ℕ) → AreDues dues → IsNonDecreasingBy first_of (take (length dues - i) (drop i dues))
rest-rise dues i h = IsNonDecreasingBy-take first_of (length dues - i) (drop i dues) (IsNonDecreasingBy-drop first_of i dues (dues-rise dues h))

below-first : (c : ℕ) (d : Due) → leb (first_of d) c ≡ true → bars_from c d ≡ false
below-first c (Need p) h = refl
below-first c (Bar [] p) h = refl
below-first c (Bar (a ∷ chars) p) h = ne_eqb a c (λ e. let le = leb-true _ c h in omega (arith, le, e))

pub above-last : (c : ℕ) (d : Due) → leb (first_of d) (c + 1) ≡ false → bars_from c d ≡ false
above-last c (Need p) h = refl
above-last c (Bar [] p) h = refl
above-last c (Bar (a ∷ chars) p) h = ne_eqb a c (λ e. let lt = leb-false _ (c + 1) h in omega (arith, lt, e))

between : (c : ℕ) (d : Due) → leb (first_of d) c ≡ false → leb (first_of d) (c + 1) ≡ true → bars_from c d ≡ true
between c (Need p) h k = (let lt = leb-false 0 c h in absurd (omega (arith, lt)))
between c (Bar [] p) h k = (let lt = leb-false 0 c h in absurd (omega (arith, lt)))
between c (Bar (a ∷ chars) p) h k = (let lt = leb-false _ c h in let le = leb-true _ (c + 1) k in eq-eqb a c (omega (arith, lt, le)))

-- the bars that begin with a character, between two places of ordered dues
pub bars-between : (c : ℕ) (dues rest : List Due) (i j : ℕ) → rest ≡ take (length dues - i) (drop i dues) → j ≤ length rest
    → IsPartitionPoint (λ d. leb (first_of d) c ≡ true) (λ d. leb (first_of d) c ≡ false) dues i
    → IsPartitionPoint (λ d. leb (first_of d) (c + 1) ≡ true) (λ d. leb (first_of d) (c + 1) ≡ false) rest j
    → take j rest ≡ filter (bars_from c) dues
bars-between c = filter-between (bars_from c) (λ d. leb (first_of d) c) (λ d. leb (first_of d) (c + 1)) (below-first c) (between c) (above-last c)

-- only the needs, which come first, can refuse a character
pub needs-first : (t : TableView) (c : ℕ) (dues : List Due) (i : ℕ) → IsPartitionPoint (λ d. nat_eq (first_of d) 0 ≡ true) (λ d. nat_eq (first_of d) 0 ≡ false) dues i
    → list_all (lets_in t c) (take i dues) ≡ may_come t dues c
needs-first t c dues i h = all-upto (lets_in t c) dues i (λ k d lo lt. bar (get_or dues k d) (h.1 k d lo lt))
  where
    bar : (d : Due) → nat_eq (first_of d) 0 ≡ false → lets_in t c d ≡ true
    bar (Need p) e = cc
    bar (Bar chars p) e = refl

pub needs-parted : (dues : List Due) → AreDues dues → IsPartitionedBy (λ d. nat_eq (first_of d) 0) dues
needs-parted dues h i j d le lt e = (let a = dues-rise dues h i j d le lt in let b = eqb-true _ 0 e in eq-eqb _ 0 (omega (arith, a, b)))

-- those of ordered dues that pass a test
pub passing-dues : (p : Due → Bool) (dues : List Due) → AreDues dues → AreDues (filter p dues)
passing-dues p dues h = record {
  proper = All-filter p (λ due. IsTrue (is_proper due)) dues h.proper;
  ascend = IsStrictlySortedBy-filter due_cmp p dues h.ascend;
}
