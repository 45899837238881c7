-- The dues after a step are what is left, in order and without repeats.
use Rattle.std.proofs.Common.{◌≡◌, Bool, true, false, List, [], ◌∷◌, Some, None, cond, refl, sym, ap, ◌∙◌, subst, inl, inr}
use Rattle.std.specs.List.{list_all}
use Rattle.brl_dues.specs.declared.carry.Carried.{Carried}
use Rattle.brl_dues.specs.declared.carry.Carried.TheVariants.{Broken, Settled, Left}
use Rattle.brl_states.specs.declared.due.Due.{Due}
use Rattle.brl_dues.specs.Carry.{gathered, is_whole, lefts}
use Rattle.brl_dues.specs.Laws.{AreGathered}
use Rattle.brl_states.specs.Order.{in_order}
use Rattle.brl_states.proofs.DueOrder.{from-in_order, in-in_order, in_order-sorted, is-in_order}
use Rattle.brl_pairs.proofs.Listing.{IsIn, Contains-in, in-Contains}

-- what is left is left by some carried due
from-lefts : (cs : List Carried) (d : Due) → IsIn d (lefts cs) → IsIn (Left d) cs
from-lefts [] d h = h
from-lefts (Broken ∷ cs) d h = inr (from-lefts cs d h)
from-lefts (Settled ∷ cs) d h = inr (from-lefts cs d h)
from-lefts (Left e ∷ cs) d (inl same) = inl (ap Left same)
from-lefts (Left e ∷ cs) d (inr h) = inr (from-lefts cs d h)

in-lefts : (cs : List Carried) (d : Due) → IsIn (Left d) cs → IsIn d (lefts cs)
in-lefts [] d h = h
in-lefts (Broken ∷ cs) d (inl e) = cc
in-lefts (Broken ∷ cs) d (inr h) = in-lefts cs d h
in-lefts (Settled ∷ cs) d (inl e) = cc
in-lefts (Settled ∷ cs) d (inr h) = in-lefts cs d h
in-lefts (Left e ∷ cs) d (inl same) = inl (cc)
in-lefts (Left e ∷ cs) d (inr h) = inr (in-lefts cs d h)

-- one that is broken, or none
none-broken : (cs : List Carried) → list_all is_whole cs ≡ true → IsIn Broken cs → ⊥
none-broken [] e h = h
none-broken (Broken ∷ cs) e h = (let no : false ≡ true = e in cc)
none-broken (Settled ∷ cs) e (inl h) = cc
none-broken (Settled ∷ cs) e (inr h) = none-broken cs e h
none-broken (Left d ∷ cs) e (inl h) = cc
none-broken (Left d ∷ cs) e (inr h) = none-broken cs e h

all-whole : (cs : List Carried) → (IsIn Broken cs → ⊥) → list_all is_whole cs ≡ true
all-whole [] h = refl
all-whole (Broken ∷ cs) h = absurd (h (inl refl))
all-whole (Settled ∷ cs) h = all-whole cs (λ i. h (inr i))
all-whole (Left d ∷ cs) h = all-whole cs (λ i. h (inr i))

pub gathered-are : (cs : List Carried) (dues : List Due) → gathered cs ≡ Some dues → AreGathered cs dues
gathered-are cs dues = at (list_all is_whole cs) refl
  where
    at : (b : Bool) → list_all is_whole cs ≡ b → cond b (Some (in_order (lefts cs))) None ≡ Some dues → AreGathered cs dues
    at false w e = cc
    at true w e =
        let same : in_order (lefts cs) ≡ dues = cc in
        subst (AreGathered cs) same (record {
          whole = λ c. none-broken cs w (Contains-in Broken cs c);
          ascend = in_order-sorted (lefts cs);
          each = λ d. (
            (λ c. in-Contains (Left d) cs (from-lefts cs d (from-in_order d (lefts cs) (Contains-in d (in_order (lefts cs)) c)))),
            (λ c. in-Contains d (in_order (lefts cs)) (in-in_order d (lefts cs) (in-lefts cs d (Contains-in (Left d) cs c)))),
          );
        })

pub are-gathered : (cs : List Carried) (dues : List Due) → AreGathered cs dues → gathered cs ≡ Some dues
are-gathered cs dues h =
    ap (λ b. cond b (Some (in_order (lefts cs))) None) (all-whole cs (λ i. h.whole (in-Contains Broken cs i)))
    ∙ ap Some (sym (is-in_order dues (lefts cs) h.ascend
    (λ d i. in-lefts cs d (Contains-in (Left d) cs ((h.each d).0 (in-Contains d dues i))))
    (λ d i. Contains-in d dues ((h.each d).1 (in-Contains (Left d) cs (from-lefts cs d i))))))
