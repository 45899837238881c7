-- Internal. Dues, and lists of dues, that the derived equality calls equal are equal.
use Rattle.std.proofs.Common.{◌≡◌, true, List, [], ◌∷◌, refl, sym, ap, ap₂, ◌∙◌, ◌&&◌, nat_eq}
use Rattle.std.proofs.lemmas.Bool.Decides.{Decides-eqb, same_from_decides}
use Rattle.std.specs.Bool.{Decides}
use Rattle.std.specs.Cmp.{IsEquivalence, first_so, second_so}
use Rattle.std.specs.Cmp.Lexicographic.{nat_list_eq_equiv, pointwise, same_text}
use Rattle.brl_rules.specs.declared.place.Cond.{Cond}
use Rattle.brl_rules.specs.declared.place.Cond.TheVariants.{Any, Meets, Avoids}
use Rattle.brl_rules.specs.contracts.place.CondPartialEq.TheImpl as conds
use Rattle.brl_states.specs.declared.due.Due.{Due}
use Rattle.brl_states.specs.declared.due.Due.TheVariants.{Need, Bar}
use Rattle.brl_states.specs.contracts.due.DuePartialEq.TheImpl as dues

-- two conditions that compare equal are one
same_conds : (a b : Cond) → conds.eq-value.it a b ≡ true → a ≡ b
same_conds Any Any h = refl
same_conds Any (Meets s) h = cc
same_conds Any (Avoids s) h = cc
same_conds (Meets s) Any h = cc
same_conds (Meets s) (Meets t) h = (let e = (Decides-eqb s.0 t.0).0 h in λ i. Meets (record { 0 = e i }))
same_conds (Meets s) (Avoids t) h = cc
same_conds (Avoids s) Any h = cc
same_conds (Avoids s) (Meets t) h = cc
same_conds (Avoids s) (Avoids t) h = (let e = (Decides-eqb s.0 t.0).0 h in λ i. Avoids (record { 0 = e i }))

-- two dues that compare equal are one
pub same_dues : (a b : Due) → dues.eq-value.it a b ≡ true → a ≡ b
same_dues (Need c) (Need d) h = ap Need (same_conds c d h)
same_dues (Need c) (Bar t d) h = cc
same_dues (Bar s c) (Need d) h = cc
same_dues (Bar s c) (Bar t d) h =
    let chars : s ≡ t = same_text s t (sym (first_so (pointwise nat_eq s t) (conds.eq-value.it c d) h)) in
    let conds_are : c ≡ d = same_conds c d (second_so (pointwise nat_eq s t) (conds.eq-value.it c d) h) in
    ap (λ x. Bar x c) chars ∙ ap (Bar t) conds_are

-- a condition equals itself
cond_itself : (c : Cond) → conds.eq-value.it c c ≡ true
cond_itself Any = refl
cond_itself (Meets s) = (Decides-eqb s.0 s.0).1 refl
cond_itself (Avoids s) = (Decides-eqb s.0 s.0).1 refl

-- a due equals itself
due_itself : (d : Due) → dues.eq-value.it d d ≡ true
due_itself (Need c) = cond_itself c
due_itself (Bar s c) = ap₂ (λ a b. a && b) (nat_list_eq_equiv.refl s) (cond_itself c)

-- the comparison decides whether two dues are one
pub dues_Decides : (a b : Due) → Decides (dues.eq-value.it a b) (a ≡ b)
dues_Decides a b = (same_dues a b, λ e. ap (dues.eq-value.it a) (sym e) ∙ due_itself a)

-- ---- Lists of dues

-- the comparison is an equivalence
pub dues_equiv : IsEquivalence dues.eq-value.it
dues_equiv = record {
  refl = due_itself;
  symm = λ a b. same_from_decides (dues.eq-value.it a b) (dues.eq-value.it b a) (dues_Decides a b) (λ h. sym (same_dues b a h), λ e. (dues_Decides b a).1 (sym e));
  congr = λ a b c h. ap (λ x. dues.eq-value.it x c) (same_dues a b h);
}

-- two lists that compare equal are one
pub same_lists : (xs ys : List Due) → pointwise dues.eq-value.it xs ys ≡ true → xs ≡ ys
same_lists [] [] h = refl
same_lists [] (y ∷ ys) h = cc
same_lists (x ∷ xs) [] h = cc
same_lists (x ∷ xs) (y ∷ ys) h =
    let first : x ≡ y = same_dues x y (first_so (dues.eq-value.it x y) (pointwise dues.eq-value.it xs ys) h) in
    let rest : xs ≡ ys = same_lists xs ys (second_so (dues.eq-value.it x y) (pointwise dues.eq-value.it xs ys) h) in
    ap (λ a. a ∷ xs) first ∙ ap (λ l. y ∷ l) rest
