-- Queued pairs, where one is added and where the first is taken out.
use Rattle.std.proofs.Common.{◌≡◌, ◌≢◌, ℕ, zero, suc, ◌<◌, All, Contains, List, ◌∷◌, ◌⊎◌, inl, inr, length, get_or, Some, slice_get, refl, sym, ap, arith}
use Rattle.std.specs.List.Sorted.{IsPermutation}
use Rattle.std.specs.declared.cmp.Reverse.{Reverse}
use Rattle.std.proofs.lemmas.List.Sorted.{Contains-permutation, All-permutation}
use Rattle.brl_pairs.specs.Body.{NumberPair}
use Rattle.brl_closure.specs.SearchView.{Stays}
use Rattle.brl_closure.specs.Worklist.{IsItemOf, IsQueued}

module _ {X : Type 0} where
  in_tail : (x : X) (xs : List X) (y : X) → Contains xs y → Contains (x ∷ xs) y
  in_tail x xs y h = (suc h.0, omega (arith, h.1), h.2)

  at_head : (x : X) (xs : List X) → Contains (x ∷ xs) x
  at_head x xs = (0, omega arith, refl)

  head_or_tail : (x : X) (xs : List X) (y : X) → Contains (x ∷ xs) y → (x ≡ y) ⊎ Contains xs y
  head_or_tail x xs y h = by h.0 h.1 h.2
    where
      by : (k : ℕ) → k < length (x ∷ xs) → get_or (x ∷ xs) k y ≡ y → (x ≡ y) ⊎ Contains xs y
      by zero lt is = inl is
      by (suc k) lt is = inr (k, omega (arith, lt), is)

  all_cons : (P : X → Type 0) (x : X) (xs : List X) → P x → All P xs → All P (x ∷ xs)
  all_cons P x xs here rest zero d lt = here
  all_cons P x xs here rest (suc k) d lt = rest k d (omega (arith, lt))

  pub all_head : (P : X → Type 0) (x : X) (xs : List X) → All P (x ∷ xs) → P x
  all_head P x xs h = h 0 x (omega arith)

  all_tail : (P : X → Type 0) (x : X) (xs : List X) → All P (x ∷ xs) → All P xs
  all_tail P x xs h k d lt = h (suc k) d (omega (arith, lt))

  all_weaker : (P Q : X → Type 0) (xs : List X) → ((x : X) → P x → Q x) → All P xs → All Q xs
  all_weaker P Q xs then h k d lt = then (get_or xs k d) (h k d lt)

-- ---- One more is queued

pub queued_more : (x : Reverse (ℕ × ℕ)) (xs ys : List (Reverse (ℕ × ℕ))) → IsPermutation (x ∷ xs) ys → (n : ℕ) → IsQueued n xs → IsQueued n ys
queued_more x xs ys same n h = (h.0, Contains-permutation (x ∷ xs) ys _ same (in_tail x xs _ h.1))

pub queued_new : (behind n : ℕ) (xs ys : List (Reverse (ℕ × ℕ))) → IsPermutation (record { 0 = (behind, n) } ∷ xs) ys → IsQueued n ys
queued_new behind n xs ys same = (behind, Contains-permutation (record { 0 = (behind, n) } ∷ xs) ys _ same (at_head _ xs))

pub item_pushed : (pairs : List NumberPair) (behind n : ℕ) (xs ys : List (Reverse (ℕ × ℕ))) → IsPermutation (record { 0 = (behind, n) } ∷ xs) ys → (p : NumberPair) → slice_get pairs n ≡ Some p → p.behind ≡ behind
    → All (IsItemOf pairs) xs → All (IsItemOf pairs) ys
item_pushed pairs behind n xs ys same p at is h =
    All-permutation (IsItemOf pairs) (record { 0 = (behind, n) } ∷ xs) ys same (all_cons (IsItemOf pairs) (record { 0 = (behind, n) }) xs (p, at, is) h)

-- where pairs are added
pub items_more : (ps qs : List NumberPair) → Stays ps qs → (xs : List (Reverse (ℕ × ℕ))) → All (IsItemOf ps) xs → All (IsItemOf qs) xs
items_more ps qs stays xs = all_weaker (IsItemOf ps) (IsItemOf qs) xs (λ x item. (item.0, stays x.0.1 item.0 item.1, item.2))

-- ---- The first is taken out

pub queued_popped : (x : Reverse (ℕ × ℕ)) (xs ys : List (Reverse (ℕ × ℕ))) → IsPermutation xs (x ∷ ys) → (n : ℕ) → n ≢ x.0.1 → IsQueued n xs → IsQueued n ys
queued_popped x xs ys same n other h =
    elim (head_or_tail x ys (record { 0 = (h.0, n) }) (Contains-permutation xs (x ∷ ys) _ same h.1)) [
      | inl e ↦ absurd (other (ap (λ (y : Reverse (ℕ × ℕ)). y.0.1) (sym e)))
      | inr rest ↦ (h.0, rest)
    ]

pub item_popped : (pairs : List NumberPair) (x : Reverse (ℕ × ℕ)) (xs ys : List (Reverse (ℕ × ℕ))) → IsPermutation xs (x ∷ ys) → All (IsItemOf pairs) xs → IsItemOf pairs x × All (IsItemOf pairs) ys
item_popped pairs x xs ys same h =
    let all = All-permutation (IsItemOf pairs) xs (x ∷ ys) same h in
    (all_head (IsItemOf pairs) x ys all, all_tail (IsItemOf pairs) x ys all)

-- nothing is queued in an empty queue
pub none_queued : (n : ℕ) (xs : List (Reverse (ℕ × ℕ))) → length xs ≡ 0 → IsQueued n xs → ⊥
none_queued n xs none h = absurd (omega (arith, none, h.1.1))
