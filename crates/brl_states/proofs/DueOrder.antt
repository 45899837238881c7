-- The order of dues is total, dues that tie are the same, and two lists in order with the same
-- members are one.
use Rattle.std.proofs.Common.{◌≡◌, ◌⊎◌, List, [], ◌∷◌, refl, sym, ap, ◌∙◌, subst, inl, inr, arith, Ordering, Less, Equal, Greater}
use Rattle.std.specs.Ordering.{ordering_then, ordering_reverse}
use Rattle.std.specs.Cmp.{IsTotalOrder}
use Rattle.std.specs.List.{AllByRecursion}
use Rattle.std.specs.List.Sorted.{IsStrictlySortedBy}
use Rattle.std.specs.FinMap.{nat_cmp-IsAntisymmetric, slice_cmp-IsAntisymmetric}
use Rattle.std.proofs.lemmas.Cmp.{nat_cmp_total, nat_list_cmp_total, on_total, then_total, tied_itself}
use Rattle.brl_rules.specs.declared.place.Cond.{Cond}
use Rattle.brl_rules.specs.declared.place.Cond.TheVariants.{Any, Meets, Avoids}
use Rattle.brl_states.specs.declared.due.Due.{Due}
use Rattle.brl_states.specs.declared.due.Due.TheVariants.{Need, Bar}
use Rattle.brl_states.specs.Order.{AreDues, cond_kind, cond_set, cond_cmp, due_kind, due_chars, due_cond, due_cmp, place, insert_due, in_order}
use Rattle.brl_pairs.proofs.Listing.{IsIn}

pub cond_total : IsTotalOrder cond_cmp
cond_total = then_total (on_total cond_kind nat_cmp_total) (on_total cond_set nat_cmp_total)

pub due_total : IsTotalOrder due_cmp
due_total = then_total (on_total due_kind nat_cmp_total) (then_total (on_total due_chars nat_list_cmp_total) (on_total due_cond cond_total))

then_equal : (o p : Ordering) → ordering_then o p ≡ Equal → (o ≡ Equal) × (p ≡ Equal)
then_equal Less p e = (cc, cc)
then_equal Equal p e = (refl, e)
then_equal Greater p e = (cc, cc)

same_cond : (c d : Cond) → cond_kind c ≡ cond_kind d → cond_set c ≡ cond_set d → c ≡ d
same_cond Any Any k e = refl
same_cond Any (Meets t) k e = cc
same_cond Any (Avoids t) k e = cc
same_cond (Meets s) Any k e = cc
same_cond (Meets s) (Meets t) k e = λ i. Meets (record { 0 = e i })
same_cond (Meets s) (Avoids t) k e = cc
same_cond (Avoids s) Any k e = cc
same_cond (Avoids s) (Meets t) k e = cc
same_cond (Avoids s) (Avoids t) k e = λ i. Avoids (record { 0 = e i })

pub cond_tied : (c d : Cond) → cond_cmp c d ≡ Equal → c ≡ d
cond_tied c d e =
    let h = then_equal _ _ e in
    same_cond c d (nat_cmp-IsAntisymmetric _ _ h.0) (nat_cmp-IsAntisymmetric _ _ h.1)

same_due : (d e : Due) → due_kind d ≡ due_kind e → due_chars d ≡ due_chars e → due_cond d ≡ due_cond e → d ≡ e
same_due (Need c) (Need d) k s e = ap Need e
same_due (Need c) (Bar s d) k t e = cc
same_due (Bar s c) (Need d) k t e = cc
same_due (Bar s c) (Bar t d) k i e = ap (λ x. Bar x c) i ∙ ap (λ y. Bar t y) e

pub due_tied : (d e : Due) → due_cmp d e ≡ Equal → d ≡ e
due_tied d e h =
    let i = then_equal _ _ h in
    let j = then_equal _ _ i.1 in
    same_due d e (nat_cmp-IsAntisymmetric _ _ i.0) (slice_cmp-IsAntisymmetric nat_cmp-IsAntisymmetric _ _ j.0) (cond_tied _ _ j.1)

-- ---- Putting a due in keeps the order

abbrev Below : Due → List Due → Type 0
Below x dues = AllByRecursion (λ y. due_cmp x y ≡ Less) dues

place-below : (x d e : Due) (ds r : List Due) (o : Ordering) → due_cmp x d ≡ Less → Below x (e ∷ ds) → Below x r → Below x (place o d e ds r)
place-below x d e ds r Less h a i = (h, a)
place-below x d e ds r Equal h a i = a
place-below x d e ds r Greater h a i = (a.0, i)

insert-below : (x d : Due) (ds : List Due) → due_cmp x d ≡ Less → Below x ds → Below x (insert_due d ds)
insert-below x d [] h a = (h, a)
insert-below x d (e ∷ ds) h a = place-below x d e ds (insert_due d ds) (due_cmp d e) h a (insert-below x d ds h a.1)

below-less : (d e : Due) (ds : List Due) → due_cmp d e ≡ Less → Below e ds → Below d ds
below-less d e [] h a = a
below-less d e (x ∷ ds) h a = (due_total.trans d e x h a.0, below-less d e ds h a.1)

pub insert_due-sorted : (d : Due) (ds : List Due) → IsStrictlySortedBy due_cmp ds → IsStrictlySortedBy due_cmp (insert_due d ds)
unfolding IsStrictlySortedBy
insert_due-sorted d [] s = (s, s)
insert_due-sorted d (e ∷ ds) s = pick (due_cmp d e) refl (insert_due-sorted d ds s.1)
  where
    pick : (o : Ordering) → due_cmp d e ≡ o → IsStrictlySortedBy due_cmp (insert_due d ds) → IsStrictlySortedBy due_cmp (place o d e ds (insert_due d ds))
    pick Less h r = ((h, below-less d e ds h s.0), s)
    pick Equal h r = s
    pick Greater h r = (insert-below e d ds (due_total.antisymm e d ∙ ap ordering_reverse h) s.0, r)

none-sorted : IsStrictlySortedBy due_cmp []
unfolding IsStrictlySortedBy
none-sorted = tt

pub in_order-sorted : (ds : List Due) → IsStrictlySortedBy due_cmp (in_order ds)
in_order-sorted [] = none-sorted
in_order-sorted (d ∷ ds) = insert_due-sorted d (in_order ds) (in_order-sorted ds)

-- ---- Members

from-place : (o : Ordering) (x d e : Due) (ds r : List Due) → IsIn x (place o d e ds r) → (IsIn x r → (x ≡ d) ⊎ IsIn x ds) → (x ≡ d) ⊎ IsIn x (e ∷ ds)
from-place Less x d e ds r i f = i
from-place Equal x d e ds r i f = inr i
from-place Greater x d e ds r (inl h) f = inr (inl h)
from-place Greater x d e ds r (inr i) f = elim (f i) [ inl h ↦ inl h | inr j ↦ inr (inr j) ]

pub from-insert_due : (x d : Due) (ds : List Due) → IsIn x (insert_due d ds) → (x ≡ d) ⊎ IsIn x ds
from-insert_due x d [] i = i
from-insert_due x d (e ∷ ds) i = from-place (due_cmp d e) x d e ds (insert_due d ds) i (from-insert_due x d ds)

place-new : (o : Ordering) (d e : Due) (ds r : List Due) → due_cmp d e ≡ o → IsIn d r → IsIn d (place o d e ds r)
place-new Less d e ds r c i = inl refl
place-new Equal d e ds r c i = inl (due_tied d e c)
place-new Greater d e ds r c i = inr i

pub insert_due-new : (d : Due) (ds : List Due) → IsIn d (insert_due d ds)
insert_due-new d [] = inl refl
insert_due-new d (e ∷ ds) = place-new (due_cmp d e) d e ds (insert_due d ds) refl (insert_due-new d ds)

place-old : (o : Ordering) (x d e : Due) (ds r : List Due) → IsIn x (e ∷ ds) → (IsIn x ds → IsIn x r) → IsIn x (place o d e ds r)
place-old Less x d e ds r i f = inr i
place-old Equal x d e ds r i f = i
place-old Greater x d e ds r (inl h) f = inl h
place-old Greater x d e ds r (inr i) f = inr (f i)

pub insert_due-old : (x d : Due) (ds : List Due) → IsIn x ds → IsIn x (insert_due d ds)
insert_due-old x d [] i = absurd i
insert_due-old x d (e ∷ ds) i = place-old (due_cmp d e) x d e ds (insert_due d ds) i (insert_due-old x d ds)

pub from-in_order : (x : Due) (ds : List Due) → IsIn x (in_order ds) → IsIn x ds
from-in_order x [] i = i
from-in_order x (d ∷ ds) i = elim (from-insert_due x d (in_order ds) i) [ inl h ↦ inl h | inr j ↦ inr (from-in_order x ds j) ]

pub in-in_order : (x : Due) (ds : List Due) → IsIn x ds → IsIn x (in_order ds)
in-in_order x [] i = i
in-in_order x (d ∷ ds) (inl h) = subst (λ w. IsIn w (insert_due d (in_order ds))) (sym h) (insert_due-new d (in_order ds))
in-in_order x (d ∷ ds) (inr i) = insert_due-old x d (in_order ds) (in-in_order x ds i)

-- ---- One order

below-in : (x z : Due) (xs : List Due) → Below x xs → IsIn z xs → due_cmp x z ≡ Less
below-in x z [] a i = absurd i
below-in x z (y ∷ xs) a (inl h) = ap (due_cmp x) h ∙ a.0
below-in x z (y ∷ xs) a (inr i) = below-in x z xs a.1 i

never-less : (x : Due) → due_cmp x x ≡ Less → ⊥
never-less x h = (let e : Less ≡ Equal = sym h ∙ tied_itself due_total x in cc)

front-same : (x y : Due) (xs ys : List Due) → Below x xs → Below y ys → IsIn x (y ∷ ys) → IsIn y (x ∷ xs) → x ≡ y
front-same x y xs ys a b (inl h) j = h
front-same x y xs ys a b (inr k) (inl h) = sym h
front-same x y xs ys a b (inr k) (inr l) = absurd (never-less x (due_total.trans x y x (below-in x y xs a l) (below-in y x ys b k)))

rest-in : (x y : Due) (xs ys : List Due) → Below x xs → x ≡ y → ((z : Due) → IsIn z (x ∷ xs) → IsIn z (y ∷ ys)) → (z : Due) → IsIn z xs → IsIn z ys
rest-in x y xs ys a e f z i = elim (f z (inr i)) [
  | inl h ↦ absurd (never-less x (subst (λ w. due_cmp x w ≡ Less) (h ∙ sym e) (below-in x z xs a i)))
  | inr k ↦ k
]

-- lists in order with the same members are the same
pub one-order : (xs ys : List Due) → IsStrictlySortedBy due_cmp xs → IsStrictlySortedBy due_cmp ys → ((x : Due) → IsIn x xs → IsIn x ys) → ((x : Due) → IsIn x ys → IsIn x xs) → xs ≡ ys
unfolding IsStrictlySortedBy
one-order [] [] s t f g = refl
one-order [] (y ∷ ys) s t f g = absurd (g y (inl refl))
one-order (x ∷ xs) [] s t f g = absurd (f x (inl refl))
one-order (x ∷ xs) (y ∷ ys) s t f g =
    let e = front-same x y xs ys s.0 t.0 (f x (inl refl)) (g y (inl refl)) in
    let rest = one-order xs ys s.1 t.1 (rest-in x y xs ys s.0 e f) (rest-in y x ys xs t.0 (sym e) g) in
    ap (λ a. a ∷ xs) e ∙ ap (λ b. y ∷ b) rest

-- a list in order that has these members is these in order
pub is-in_order : (xs ds : List Due) → IsStrictlySortedBy due_cmp xs → ((x : Due) → IsIn x xs → IsIn x ds) → ((x : Due) → IsIn x ds → IsIn x xs) → xs ≡ in_order ds
is-in_order xs ds s f g =
    one-order xs (in_order ds) s (in_order-sorted ds) (λ x i. in-in_order x ds (f x i)) (λ x i. g x (from-in_order x ds i))

pub no-dues : AreDues []
no-dues = record { proper = λ k d h. absurd (omega (arith, h)); ascend = none-sorted }
