-- The forms that the bars of a state meet.
use Rattle.std.proofs.Common.{◌≡◌, ◌++◌, ◌+◌, ◌<◌, ◌≤◌, ℕ, Bool, All, Contains, List, [], ◌∷◌, ap, append-nil, arith, cond, false, filter, flat_map, get_or, inl, inr, length, map, refl, suc, subst, sym, true, zero, ◌∙◌}
use Rattle.std.proofs.lemmas.Bool.{cases_eq}
use Rattle.std.proofs.lemmas.Grind.{flat_map-append}
use Rattle.std.proofs.lemmas.List.{get_or-map, get_or_default, length-map}
use Rattle.std.proofs.lemmas.List.Elements.{All-filter, All-get_or, All-tail}
use Rattle.std.proofs.lemmas.List.FromFn.{get_or-range_with_len, length-range_with_len}
use Rattle.std.specs.List.{range_with_len}
use Rattle.brl_contexts.specs.declared.met.Met.{Met}
use Rattle.brl_contexts.specs.Met.{IsMet, met_at, met_by, met_in}
use Rattle.brl_pairs.specs.Order.{all_at, at, is_around, places_around}
use Rattle.brl_pairs.proofs.Listing.{Contains-in, IsIn, from-flat_map, from-map, in-Contains, in-flat_map, in-map}

-- one number more
pub counting_on : (a n : ℕ) → range_with_len a (n + 1) ≡ range_with_len a n ++ (a + n) ∷ []
counting_on a zero = ap (λ k. k ∷ []) (let e : a ≡ a + 0 = omega arith in e)
counting_on a (suc n) =
    ap (range_with_len a) (let e : suc n + 1 ≡ suc (n + 1) = omega arith in e)
    ∙ ap (λ l. a ∷ l) (counting_on (a + 1) n ∙ ap (λ k. range_with_len (a + 1) n ++ k ∷ []) (let e : a + 1 + n ≡ a + suc n = omega arith in e))

-- each number of a range is below a limit, if all are
pub below_all : (a n i limit : ℕ) → i < n → All (λ k. k < limit) (range_with_len a n) → a + i < limit
below_all a n i limit less all = subst (λ k. k < limit) (get_or-range_with_len a n i 0 less) (All-get_or (λ k. k < limit) (range_with_len a n) i 0 (let size = length-range_with_len a n in omega (arith, less, size)) all)

-- what holds of all holds of the last ones
pub of_last : (P : ℕ → Type 0) (xs ys : List ℕ) → All P (xs ++ ys) → All P ys
of_last P [] ys all = all
of_last P (x ∷ xs) ys all = of_last P xs ys (All-tail P x (xs ++ ys) all)

-- what bars before one meet, and what it meets
pub one_more : (bars reads : List (List ℕ)) (numbers : List ℕ) (n : ℕ) → flat_map (met_by bars reads numbers) (range_with_len 0 (n + 1)) ≡ flat_map (met_by bars reads numbers) (range_with_len 0 n) ++ met_by bars reads numbers n
one_more bars reads numbers n =
    ap (flat_map (met_by bars reads numbers)) (counting_on 0 n ∙ ap (λ k. range_with_len 0 n ++ k ∷ []) (let e : 0 + n ≡ n = omega arith in e))
    ∙ flat_map-append (met_by bars reads numbers) (range_with_len 0 n) (n ∷ [])
    ∙ ap (λ l. flat_map (met_by bars reads numbers) (range_with_len 0 n) ++ l) (append-nil (met_by bars reads numbers n))

-- places around a key are within
pub around_within : (all : List (List ℕ)) (key : List ℕ) → All (λ place. place < length all) (places_around all key)
around_within all key =
    All-filter (λ place. is_around key (at all place)) (λ place. place < length all) (range_with_len 0 (length all))
    (λ i d lt. let size = length-range_with_len 0 (length all) in let is = get_or-range_with_len 0 (length all) i d (omega (arith, lt, size)) in omega (arith, lt, size, is))

-- each list as it is
pub themselves : (lists : List (List ℕ)) → map (λ (l : List ℕ). l) lists ≡ lists
themselves [] = refl
themselves (l ∷ lists) = ap (λ ls. l ∷ ls) (themselves lists)

-- ---- Exactly those

-- the numbers of a range
from_range : (n a k : ℕ) → IsIn k (range_with_len a n) → (a ≤ k) × (k < a + n)
from_range zero a k i = absurd i
from_range (suc n) a k (inl e) = (omega (arith, e), omega (arith, e))
from_range (suc n) a k (inr i) = (let h = from_range n (a + 1) k i in let low = h.0 in let high = h.1 in (omega (arith, low), omega (arith, high)))

in_range : (n a k : ℕ) → a ≤ k → k < a + n → IsIn k (range_with_len a n)
in_range zero a k low high = absurd (omega (arith, low, high))
in_range (suc n) a k low high = elim (cases_eq k a) [ inl e ↦ inl e | inr other ↦ inr (in_range n (a + 1) k (omega (arith, low, other)) (omega (arith, high))) ]

from_test : (p : ℕ → Bool) (k : ℕ) (ks : List ℕ) → IsIn k (filter p ks) → IsIn k ks × (p k ≡ true)
from_test p k [] i = absurd i
from_test p k (j ∷ ks) i = by (p j) refl i (from_test p k ks)
  where
    by : (b : Bool) → p j ≡ b → IsIn k (cond b (j ∷ filter p ks) (filter p ks)) → (IsIn k (filter p ks) → IsIn k ks × (p k ≡ true)) → IsIn k (j ∷ ks) × (p k ≡ true)
    by true e h more = elim h [ inl is ↦ (inl is, ap p is ∙ e) | inr later ↦ (let m = more later in (inr m.0, m.1)) ]
    by false e h more = (let m = more h in (inr m.0, m.1))

into_test : (p : ℕ → Bool) (k : ℕ) (ks : List ℕ) → IsIn k ks → p k ≡ true → IsIn k (filter p ks)
into_test p k [] i passes = absurd i
into_test p k (j ∷ ks) (inl is) passes = subst (λ (b : Bool). IsIn k (cond b (j ∷ filter p ks) (filter p ks))) (sym (ap p (sym is) ∙ passes)) (inl is)
into_test p k (j ∷ ks) (inr later) passes = by (p j) (into_test p k ks later passes)
  where
    by : (b : Bool) → IsIn k (filter p ks) → IsIn k (cond b (j ∷ filter p ks) (filter p ks))
    by true h = inr h
    by false h = h

module _ (bars reads : List (List ℕ)) (numbers : List ℕ) (x : Met) where
  -- what is at a place is what the form reads whose number is there
  read_at : (place : ℕ) → place < length numbers → at (all_at reads numbers) place ≡ at reads (get_or numbers place 0)
  read_at place less = get_or-map (at reads) numbers place 0 [] less

  pub from_met : Contains (met_in bars reads numbers) x → IsMet bars reads numbers x
  from_met there =
      let n = from-flat_map (met_by bars reads numbers) x (range_with_len 0 (length bars)) (Contains-in x (met_in bars reads numbers) there) in
      let place = from-map (met_at numbers n.0) x (places_around (all_at reads numbers) (at bars n.0)) n.2 in
      let test = from_test (λ k. is_around (at bars n.0) (at (all_at reads numbers) k)) place.0 (range_with_len 0 (length (all_at reads numbers))) place.1 in
      let bar = (from_range (length bars) 0 n.0 n.1).1 in
      let high = (from_range (length (all_at reads numbers)) 0 place.0 test.0).1 in
      let size : length (all_at reads numbers) ≡ length numbers = length-map numbers (at reads) in
      let less : place.0 < length numbers = omega (arith, high, size) in
      subst (IsMet bars reads numbers) (sym place.2) (record {
        form = (place.0, less, get_or_default numbers place.0 (get_or numbers place.0 0) 0 less);
        bar = omega (arith, bar);
        meets = ap (is_around (at bars n.0)) (sym (read_at place.0 less)) ∙ test.1;
      })

  pub into_met : IsMet bars reads numbers x → Contains (met_in bars reads numbers) x
  into_met met =
      let place = met.form.0 in
      let less : place < length numbers = met.form.1 in
      let size : length (all_at reads numbers) ≡ length numbers = length-map numbers (at reads) in
      let form : get_or numbers place 0 ≡ x.form = get_or_default numbers place 0 x.form less ∙ met.form.2 in
      let test : is_around (at bars x.bar) (at (all_at reads numbers) place) ≡ true = ap (is_around (at bars x.bar)) (read_at place less ∙ ap (at reads) form) ∙ met.meets in
      let there : IsIn place (places_around (all_at reads numbers) (at bars x.bar)) =
      into_test (λ k. is_around (at bars x.bar) (at (all_at reads numbers) k)) place (range_with_len 0 (length (all_at reads numbers)))
      (in_range (length (all_at reads numbers)) 0 place (omega arith) (omega (arith, less, size))) test in
      let one : IsIn x (met_by bars reads numbers x.bar) = subst (λ (y : Met). IsIn y (met_by bars reads numbers x.bar)) (λ i. record { form = form i; bar = x.bar })
      (in-map (met_at numbers x.bar) place (places_around (all_at reads numbers) (at bars x.bar)) there) in
      in-Contains x (met_in bars reads numbers)
      (in-flat_map (met_by bars reads numbers) x.bar x (range_with_len 0 (length bars)) (in_range (length bars) 0 x.bar (omega arith) (let bar = met.bar in omega (arith, bar))) one)
