-- Numbers in the order of what is read.
use Rattle.std.proofs.Common.{◌≡◌, ◌∙◌, ℕ, ◌+◌, ◌<◌, All, Contains, List, ap, ap₂, arith, false, get_or, inl, inr, length, map, nat_eq, subst, sym}
use Rattle.std.proofs.lemmas.List.{get_or-map, length-map}
use Rattle.std.proofs.lemmas.List.FromFn.{get_or-range_with_len, length-range_with_len}
use Rattle.std.proofs.lemmas.List.Sorted.{All-permutation, Contains-permutation}
use Rattle.std.proofs.lemmas.Bool.Decides.{eqb_tells}
use Rattle.std.proofs.lemmas.Map.Keys.{IsDistinct-IsPermutation, IsDistinct-from_apart}
use Rattle.std.specs.Cmp.{nat_eq_equiv}
use Rattle.std.specs.List.{range_with_len}
use Rattle.std.specs.List.Sorted.{IsPermutation, IsSortedBy}
use Rattle.brl_contexts.specs.Forms.{HasAll}
use Rattle.brl_contexts.proofs.Found.{themselves}
use Rattle.brl_pairs.specs.Order.{AreInOrder, all_at, at}
use Rattle.brl_pairs.specs.Sorted.{is_before}

-- what is in order by what is looked up is in order when it is looked up
sorted-map : (reads : List (List ℕ)) (numbers : List ℕ) → IsSortedBy (λ a b. is_before (at reads a) (at reads b)) numbers → IsSortedBy is_before (all_at reads numbers)
sorted-map reads numbers sorted k d low high =
    let size = length-map numbers (at reads) in
    let one = get_or-map (at reads) numbers (k + 1) 0 d (omega (arith, high, size)) in
    let other = get_or-map (at reads) numbers k 0 d (omega (arith, high, size)) in
    ap₂ is_before one other ∙ sorted k 0 low (omega (arith, high, size))

module _ (reads : List (List ℕ)) (old new : List ℕ) (is : old ≡ range_with_len 0 (length reads)) (moved : IsPermutation old new) where
  below : All (λ number. number < length reads) old
  below = subst (All (λ number. number < length reads)) (sym is) (λ k d less. let size = length-range_with_len 0 (length reads) in
      let value = get_or-range_with_len 0 (length reads) k d (omega (arith, less, size)) in omega (arith, less, size, value))

  pub all_in_order : IsSortedBy (λ a b. is_before (at reads a) (at reads b)) new → AreInOrder (map (λ (l : List ℕ). l) reads) new
  all_in_order sorted = subst (λ (kept : List (List ℕ)). AreInOrder kept new) (sym (themselves reads)) (record {
    within = All-permutation (λ number. number < length reads) old new moved below;
    ascending = sorted-map reads new sorted;
  })

  apart : (i j d : ℕ) → i < j → j < length old → nat_eq (get_or old i d) (get_or old j d) ≡ false
  apart i j d less within =
      let size = ap length is ∙ length-range_with_len 0 (length reads) in
      let one : get_or old i d ≡ 0 + i = ap (λ (l : List ℕ). get_or l i d) is ∙ get_or-range_with_len 0 (length reads) i d (omega (arith, less, within, size)) in
      let other : get_or old j d ≡ 0 + j = ap (λ (l : List ℕ). get_or l j d) is ∙ get_or-range_with_len 0 (length reads) j d (omega (arith, within, size)) in
      elim (eqb_tells (get_or old i d) (get_or old j d)) [ inl same ↦ absurd (let e = same.1 in omega (arith, e, one, other, less)) | inr differ ↦ differ.0 ]

  pub has_all : HasAll (length reads) new
  has_all = record {
    all = λ number less. Contains-permutation old new number moved (subst (λ l. Contains l number) (sym is)
        (number, (let size = length-range_with_len 0 (length reads) in omega (arith, less, size)), get_or-range_with_len 0 (length reads) number number less ∙ (let zero : 0 + number ≡ number = omega arith in zero)));
    once = IsDistinct-IsPermutation nat_eq (λ x y. nat_eq_equiv.symm x y) old new moved (IsDistinct-from_apart nat_eq old apart);
  }
