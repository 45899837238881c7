-- A sort of dues and the repeats taken out give the dues in order.
use Rattle.std.proofs.Common.{◌≡◌, Bool, true, false, List, [], ◌∷◌, refl, sym, ap, ◌∙◌, inl, inr, arith, All, IsTrue, Bor, IsPermutation, IsSortedBy, Ordering, Less, Equal, Greater}
use Rattle.std.proofs.lemmas.Bool.Decides.{same_from_decides}
use Rattle.std.proofs.lemmas.Cmp.{tied_itself}
use Rattle.std.proofs.lemmas.List.Elements.{All-cons, All-contains}
use Rattle.std.proofs.lemmas.List.Filters.{dedup_is}
use Rattle.std.proofs.lemmas.List.Kept.{Contains-dedup, Contains-from_dedup, IsStrictlySortedBy-dedup}
use Rattle.std.proofs.lemmas.List.Sorted.{Contains-permutation, IsPermutation-sym, answers_always, ranks_by}
use Rattle.std.specs.Cmp.{IsStrictWeakOrder}
use Rattle.std.specs.Fn.{Called, ComparesAs}
use Rattle.std.specs.List.{dedup}
use Rattle.std.specs.List.Retain.{DiffersFromLast, IsFiltered}
use Rattle.std.specs.Ordering.{eq_by_cmp, is_eq, is_lt}
use denote.Param.Members.{Mut}
use Rattle.brl_states.specs.Order.{AreDues, due_cmp, in_order, is_proper}
use Rattle.brl_states.specs.SameDues.{dues_Decides, dues_equiv, same_dues}
use Rattle.brl_states.specs.contracts.due.DuePartialEq.TheImpl.{eq-value}
use Rattle.brl_states.specs.declared.due.Due.{Due}
use Rattle.brl_states.proofs.DueOrder.{due_tied, due_total, from-in_order, in_order-sorted, is-in_order}
use Rattle.brl_pairs.proofs.Listing.{IsIn, in-Contains, Contains-in}

-- ---- Ties

ties : (x y : Due) → eq-value.it x y ≡ eq_by_cmp due_cmp x y
ties x y = same_from_decides (eq-value.it x y) (eq_by_cmp due_cmp x y) (dues_Decides x y) (at (due_cmp x y) refl, λ e. ap (λ z. eq_by_cmp due_cmp x z) (sym e) ∙ itself)
  where
    at : (o : Ordering) → due_cmp x y ≡ o → eq_by_cmp due_cmp x y ≡ true → x ≡ y
    at Less h e = (let k : false ≡ true = sym (ap is_eq h) ∙ e in cc)
    at Equal h e = due_tied x y h
    at Greater h e = (let k : false ≡ true = sym (ap is_eq h) ∙ e in cc)

    itself : eq_by_cmp due_cmp x x ≡ true
    itself = ap is_eq (tied_itself due_total x)

-- ---- In order

pub sorted-in_order : {F : Type 0} {g : Mut F (Bor Due × (Bor Due × Unit {0})) Ordering} {f : F} (old mid new : List Due) → IsPermutation old mid
    → ((lt : Due → Due → Bool) → IsStrictWeakOrder lt → ComparesAs g lt f → IsSortedBy lt mid)
    → ((f : F) (a : Bor Due × (Bor Due × Unit {0})) (r : Ordering) (f' : F) → Called g f a r f' → r ≡ due_cmp a.0.now a.1.0.now)
    → IsFiltered (DiffersFromLast eq-value.it) [] mid new → new ≡ in_order old
sorted-in_order {F} {g} {f} old mid new moved sorted compares kept =
    let lt = λ (x : Due) (y : Due). is_lt (due_cmp x y) in
    let order : IsStrictWeakOrder (λ (x : Due) (y : Due). is_lt (due_cmp x y)) = ranks_by due_total (λ (x : Due). x) in
    let answers : ComparesAs g lt f = answers_always g (λ a r. is_lt r ≡ is_lt (due_cmp a.0.now a.1.0.now)) f (λ h a r k called. ap is_lt (compares h a r k called)) in
    let is : new ≡ dedup eq-value.it mid = dedup_is eq-value.it mid new kept in
    is ∙ is-in_order (dedup eq-value.it mid) old (IsStrictlySortedBy-dedup due_total ties mid (sorted lt order answers))
    (λ x i. Contains-in x old (Contains-permutation mid old x (IsPermutation-sym old mid moved) (Contains-from_dedup eq-value.it mid x (in-Contains x (dedup eq-value.it mid) i))))
    (λ x i. Contains-in x (dedup eq-value.it mid) (Contains-dedup dues_equiv same_dues mid x (Contains-permutation old mid x moved (in-Contains x old i))))

-- ---- What a state keeps

in-proper : (dues : List Due) → ((x : Due) → IsIn x dues → IsTrue (is_proper x)) → All (λ due. IsTrue (is_proper due)) dues
in-proper [] h = λ k d less. absurd (omega (arith, less))
in-proper (x ∷ dues) h = All-cons (λ due. IsTrue (is_proper due)) x dues (h x (inl refl)) (in-proper dues (λ y i. h y (inr i)))

pub in_order-AreDues : (dues : List Due) → All (λ due. IsTrue (is_proper due)) dues → AreDues (in_order dues)
in_order-AreDues dues h = record {
  proper = in-proper (in_order dues) (λ x i. All-contains (λ due. IsTrue (is_proper due)) dues x h (in-Contains x dues (from-in_order x dues i)));
  ascend = in_order-sorted dues;
}
