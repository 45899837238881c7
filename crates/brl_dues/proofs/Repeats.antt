-- Steps listed once: which they are, and that no two of them are the same.
use Rattle.std.proofs.Common.{◌≡◌, ◌≢◌, Bool, true, false, ◌&&◌, ◌||◌, List, [], ◌∷◌, ◌++◌, ◌⊎◌, inl, inr, refl, sym, ap, ap₂, ◌∙◌, subst, cond, nat_eq, append_assoc, append-nil}
use Rattle.std.proofs.lemmas.Bool.Decides.{Decides-eqb}
use Rattle.std.specs.Cmp.{first_so, second_so}
use Rattle.std.specs.Cmp.Lexicographic.{lists_equiv, nat_list_eq_equiv, pointwise, same_text}
use Rattle.std.specs.List.{list_any}
use Rattle.std.proofs.lemmas.Bool.{eq-eqb, eqb-true}
use Rattle.brl_pairs.specs.declared.step.Step.{Step}
use Rattle.brl_states.specs.contracts.dues_state.DuesStatePartialEq.TheImpl.{eq-value}
use Rattle.brl_states.specs.declared.dues_state.DuesState.{DuesState}
use Rattle.brl_states.specs.SameDues.{dues_equiv}
use Rattle.brl_states.specs.SameDuesState.{same_states}
use Rattle.brl_dues.specs.Steps.{is_same_step, with_step, with_steps}
use Rattle.brl_states.proofs.Pairwise.{Pairwise, append-Pairwise, between-Pairwise}
use Rattle.brl_pairs.proofs.Listing.{IsIn, in-append, in-left, in-right}
use Rattle.brl_rules.proofs.Facts.{beq-itself}

-- ---- The same step

same_steps : (x y : Step DuesState) → is_same_step x y ≡ true → x ≡ y
same_steps x y h =
    let rules = nat_eq x.rule y.rule in
    let reads = pointwise nat_eq x.reads y.reads in
    let cells = pointwise nat_eq x.cells y.cells in
    let three = first_so ((rules && reads) && cells) (eq-value.it x.next y.next) h in
    let two = first_so (rules && reads) cells three in
    let rule : x.rule ≡ y.rule = eqb-true x.rule y.rule (first_so rules reads two) in
    let read : x.reads ≡ y.reads = same_text x.reads y.reads (sym (second_so rules reads two)) in
    let cell : x.cells ≡ y.cells = same_text x.cells y.cells (sym (second_so (rules && reads) cells three)) in
    let next : x.next ≡ y.next = same_states x.next y.next (second_so ((rules && reads) && cells) (eq-value.it x.next y.next) h) in
    λ i. record { rule = rule i; reads = read i; cells = cell i; next = next i }

state-itself : (s : DuesState) → eq-value.it s s ≡ true
state-itself s =
    ap₂ (λ a b. a && b) ((Decides-eqb s.before.0 s.before.0).1 refl)
    (ap₂ (λ a b. a && b) (beq-itself s.numeric) (ap₂ (λ a b. a && b) (beq-itself s.run) ((lists_equiv dues_equiv).refl s.dues)))

step-itself : (x : Step DuesState) → is_same_step x x ≡ true
step-itself x =
    ap₂ (λ a b. a && b)
    (ap₂ (λ a b. a && b) (ap₂ (λ a b. a && b) (eq-eqb x.rule x.rule refl) (nat_list_eq_equiv.refl x.reads)) (nat_list_eq_equiv.refl x.cells)) (state-itself x.next)

-- ---- Among steps

pub found-in : (x : Step DuesState) (steps : List (Step DuesState)) → list_any (is_same_step x) steps ≡ true → IsIn x steps
found-in x [] h = cc
found-in x (y ∷ steps) h = at (is_same_step x y) refl h (found-in x steps)
  where
    at : (b : Bool) → is_same_step x y ≡ b → (b || list_any (is_same_step x) steps) ≡ true → (list_any (is_same_step x) steps ≡ true → IsIn x steps) → IsIn x (y ∷ steps)
    at true e k more = inl (same_steps x y e)
    at false e k more = inr (more k)

pub in-found : (x : Step DuesState) (steps : List (Step DuesState)) → IsIn x steps → list_any (is_same_step x) steps ≡ true
in-found x [] h = absurd h
in-found x (y ∷ steps) (inl e) = ap (λ b. b || list_any (is_same_step x) steps) (ap (is_same_step x) (sym e) ∙ step-itself x)
in-found x (y ∷ steps) (inr h) = at (is_same_step x y) (in-found x steps h)
  where
    at : (b : Bool) → list_any (is_same_step x) steps ≡ true → (b || list_any (is_same_step x) steps) ≡ true
    at true k = refl
    at false k = k

-- ---- With more steps

from-with_step : (steps : List (Step DuesState)) (y x : Step DuesState) → IsIn x (with_step steps y) → IsIn x steps ⊎ (x ≡ y)
from-with_step steps y x h = at (list_any (is_same_step y) steps) h
  where
    at : (b : Bool) → IsIn x (cond b steps (steps ++ y ∷ [])) → IsIn x steps ⊎ (x ≡ y)
    at true k = inl k
    at false k = elim (in-append x steps (y ∷ []) k) [ inl i ↦ inl i | inr (inl e) ↦ inr e | inr (inr i) ↦ absurd i ]

old-in-with_step : (steps : List (Step DuesState)) (y x : Step DuesState) → IsIn x steps → IsIn x (with_step steps y)
old-in-with_step steps y x h = at (list_any (is_same_step y) steps)
  where
    at : (b : Bool) → IsIn x (cond b steps (steps ++ y ∷ []))
    at true = h
    at false = in-left x steps (y ∷ []) h

new-in-with_step : (steps : List (Step DuesState)) (y : Step DuesState) → IsIn y (with_step steps y)
new-in-with_step steps y = at (list_any (is_same_step y) steps) refl
  where
    at : (b : Bool) → list_any (is_same_step y) steps ≡ b → IsIn y (cond b steps (steps ++ y ∷ []))
    at true e = found-in y steps e
    at false e = in-right y steps (y ∷ []) (inl refl)

pub from-with_steps : (steps more : List (Step DuesState)) (x : Step DuesState) → IsIn x (with_steps steps more) → IsIn x steps ⊎ IsIn x more
from-with_steps steps [] x h = inl h
from-with_steps steps (y ∷ more) x h = elim (from-with_steps (with_step steps y) more x h) [
  | inl k ↦ elim (from-with_step steps y x k) [ inl i ↦ inl i | inr e ↦ inr (inl e) ]
  | inr k ↦ inr (inr k)
]

old-in-with_steps : (steps more : List (Step DuesState)) (x : Step DuesState) → IsIn x steps → IsIn x (with_steps steps more)
old-in-with_steps steps [] x h = h
old-in-with_steps steps (y ∷ more) x h = old-in-with_steps (with_step steps y) more x (old-in-with_step steps y x h)

pub in-with_steps : (steps more : List (Step DuesState)) (x : Step DuesState) → IsIn x more → IsIn x (with_steps steps more)
in-with_steps steps [] x h = absurd h
in-with_steps steps (y ∷ more) x (inl e) = old-in-with_steps (with_step steps y) more x (subst (λ z. IsIn z (with_step steps y)) (sym e) (new-in-with_step steps y))
in-with_steps steps (y ∷ more) x (inr h) = in-with_steps (with_step steps y) more x h

-- ---- Each once

with_step-differ : (steps : List (Step DuesState)) (y : Step DuesState) → Pairwise (λ a b. a ≢ b) steps → Pairwise (λ a b. a ≢ b) (with_step steps y)
with_step-differ steps y h = at (list_any (is_same_step y) steps) refl
  where
    at : (b : Bool) → list_any (is_same_step y) steps ≡ b → Pairwise (λ a b. a ≢ b) (cond b steps (steps ++ y ∷ []))
    at true e = h
    at false e =
        append-Pairwise (λ a b. a ≢ b) steps (y ∷ []) h (tt, tt)
        (λ x z i j same. elim j [
          | inl is ↦ (let found = in-found y steps (subst (λ w. IsIn w steps) (same ∙ is) i) in let no : false ≡ true = sym e ∙ found in cc)
          | inr k ↦ absurd k
        ])

pub with_steps-differ : (steps more : List (Step DuesState)) → Pairwise (λ a b. a ≢ b) steps → Pairwise (λ a b. a ≢ b) (with_steps steps more)
with_steps-differ steps [] h = h
with_steps-differ steps (y ∷ more) h = with_steps-differ (with_step steps y) more (with_step-differ steps y h)

-- ---- More and more

pub with_steps-append : (steps more last : List (Step DuesState)) → with_steps steps (more ++ last) ≡ with_steps (with_steps steps more) last
with_steps-append steps [] last = refl
with_steps-append steps (y ∷ more) last = with_steps-append (with_step steps y) more last

-- ---- Steps that differ

-- a step that is none of these
pub apart : (y : Step DuesState) (steps : List (Step DuesState)) → (IsIn y steps → ⊥) → list_any (is_same_step y) steps ≡ false
apart y steps none = at (list_any (is_same_step y) steps) refl
  where
    at : (b : Bool) → list_any (is_same_step y) steps ≡ b → b ≡ false
    at true e = absurd (none (found-in y steps e))
    at false e = refl

-- steps of which no two are the same are appended as they are
pub with_steps-apart : (steps more : List (Step DuesState)) → Pairwise (λ a b. a ≢ b) (steps ++ more) → with_steps steps more ≡ steps ++ more
with_steps-apart steps [] h = sym (append-nil steps)
with_steps-apart steps (y ∷ more) h =
    ap (λ b. with_steps (cond b steps (steps ++ y ∷ [])) more) (apart y steps (λ i. between-Pairwise (λ a b. a ≢ b) steps (y ∷ more) h y y i (inl refl) refl))
    ∙ with_steps-apart (steps ++ y ∷ []) more (subst (Pairwise (λ a b. a ≢ b)) (sym (append_assoc steps (y ∷ []) more)) h)
    ∙ append_assoc steps (y ∷ []) more
