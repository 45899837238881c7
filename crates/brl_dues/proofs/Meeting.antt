-- A bar that doesn't meet what a step reads is settled; where nothing more is left a step stays as
-- it is; and the dues of two lists in order are one list.
use Rattle.std.proofs.Common.{◌≡◌, ℕ, Bool, true, false, ◌&&◌, ◌||◌, List, [], ◌∷◌, ◌++◌, Some, None, filter, map, refl, sym, ap, ap₂, ◌∙◌, subst, cond, nat_eq, inl, inr}
use Rattle.std.specs.List.{list_all, starts_with}
use Rattle.std.specs.Prelude.{option_map}
use Rattle.brl_pairs.specs.declared.step.Step.{Step}
use Rattle.brl_pairs.specs.Runs.{IsListed}
use Rattle.brl_rules.specs.declared.place.Cond.{Cond}
use Rattle.brl_rules.specs.TableView.{TableView}
use Rattle.brl_rules.proofs.Facts.{nat_eq-sym}
use Rattle.brl_dues.specs.declared.carry.Carried.{Carried}
use Rattle.brl_dues.specs.declared.carry.Carried.TheVariants.{Settled}
use Rattle.brl_states.specs.declared.due.Due.{Due}
use Rattle.brl_states.specs.declared.due.Due.TheVariants.{Need, Bar}
use Rattle.brl_states.specs.declared.dues_state.DuesState.{DuesState}
use Rattle.std.specs.List.Sorted.{IsStrictlySortedBy}
use Rattle.brl_states.specs.Order.{due_cmp, in_order}
use Rattle.brl_dues.specs.Carry.{carry, carry_bar, is_whole, left_of, lefts}
use Rattle.brl_dues.specs.Contexts.{AreOfBoth, bars, base_of, gate_of, is_bar, meets, more, new_to, opens, owing, owing_if, step_past}
use Rattle.brl_dues.specs.Parts.{told}
use Rattle.brl_dues.specs.Steps.{dues_steps, owed}
use Rattle.brl_dues.proofs.Asked.{asked-alike}
use Rattle.brl_dues.proofs.Forms.{listed-IsStep}
use Rattle.brl_dues.proofs.Left.{gathered-are}
use Rattle.brl_states.proofs.DueOrder.{from-in_order, in-in_order, in_order-sorted, is-in_order}
use Rattle.brl_pairs.proofs.Listing.{Contains-in, in-Contains, in-append, in-left, in-right}

-- ---- Bars that don't meet it

module _ (t : TableView) where
  apart-settled : (past chars : List ℕ) (next : Cond) → (starts_with nat_eq past chars || starts_with nat_eq chars past) ≡ false → carry_bar t past chars next ≡ Settled
  apart-settled [] [] next h = (let no : true ≡ false = h in cc)
  apart-settled [] (a ∷ chars) next h = (let no : true ≡ false = h in cc)
  apart-settled (c ∷ past) [] next h = (let no : true ≡ false = h in cc)
  apart-settled (c ∷ past) (a ∷ chars) next h = at (nat_eq a c) refl h (apart-settled past chars next)
    where
      first : Bool
      first = starts_with nat_eq past chars

      second : Bool
      second = starts_with nat_eq chars past

      at : (b : Bool) → nat_eq a c ≡ b → ((b && first) || (nat_eq c a && second)) ≡ false → ((first || second) ≡ false → carry_bar t past chars next ≡ Settled)
          → cond b (carry_bar t past chars next) Settled ≡ Settled
      at true e k more = more (ap (λ d. first || (d && second)) (sym (nat_eq-sym c a ∙ e)) ∙ k)
      at false e k more = refl

  pub settled : (reads chars : List ℕ) (next : Cond) → meets reads (Bar chars next) ≡ false → carry t reads (Bar chars next) ≡ Settled
  settled reads [] next h = refl
  settled reads (a ∷ chars) next h = apart-settled reads (a ∷ chars) next h

  module _ (reads : List ℕ) where
    abbrev carried : List Due → List Carried
    carried dues = map (carry t reads) dues

    -- none is broken in both lists or in neither, and the same is left
    abbrev Alike : List Due → List Due → Type 0
    Alike xs zs = (list_all is_whole (carried xs) ≡ list_all is_whole (carried zs)) × (lefts (carried xs) ≡ lefts (carried zs))

    pub meeting : (dues : List Due) → Alike (filter is_bar dues) (filter (meets reads) (filter is_bar dues))
    meeting [] = (refl, refl)
    meeting (Need next ∷ dues) = meeting dues
    meeting (Bar chars next ∷ dues) = at (meets reads (Bar chars next)) refl (meeting dues)
      where
        at : (b : Bool) → meets reads (Bar chars next) ≡ b → Alike (filter is_bar dues) (filter (meets reads) (filter is_bar dues))
            → Alike (Bar chars next ∷ filter is_bar dues) (cond b (Bar chars next ∷ filter (meets reads) (filter is_bar dues)) (filter (meets reads) (filter is_bar dues)))
        at true e k =
            (ap (λ w. is_whole (carry t reads (Bar chars next)) && w) k.0, ap (λ l. left_of (carry t reads (Bar chars next)) ++ l) k.1)
        at false e k =
            let is = settled reads chars next e in
            (ap (λ x. is_whole x && list_all is_whole (carried (filter is_bar dues))) is ∙ k.0, ap (λ x. left_of x ++ lefts (carried (filter is_bar dues))) is ∙ k.1)

  pub met-alone : (s : DuesState) (x : Step DuesState) → more t (bars s) x ≡ more t (filter (meets x.reads) (bars s)) x
  met-alone s x =
      let k = meeting x.reads s.dues in
      ap₂ (λ b (l : List Due). option_map (new_to x.next.dues) (cond b (Some l) None)) k.0 k.1

-- ---- Dues of both

pub of-both : (one other both : List Due) → AreOfBoth one other both → both ≡ in_order (one ++ other)
of-both one other both h =
    is-in_order both (one ++ other) h.ascend
    (λ d i. elim ((h.each d).0 (in-Contains d both i)) [
      | inl k ↦ in-left d one other (Contains-in d one k)
      | inr k ↦ in-right d one other (Contains-in d other k)
    ])
    (λ d i. Contains-in d both ((h.each d).1 (elim (in-append d one other i) [ inl k ↦ inl (in-Contains d one k) | inr k ↦ inr (in-Contains d other k) ])))

pub are-of-both : (one other : List Due) → AreOfBoth one other (in_order (one ++ other))
are-of-both one other = record {
  ascend = in_order-sorted (one ++ other);
  each = λ d. (
    (λ c. elim (in-append d one other (from-in_order d (one ++ other) (Contains-in d (in_order (one ++ other)) c))) [ inl k ↦ inl (in-Contains d one k) | inr k ↦ inr (in-Contains d other k) ]),
    (λ c. in-Contains d (in_order (one ++ other)) (in-in_order d (one ++ other) (elim c [
      | inl k ↦ in-left d one other (Contains-in d one k)
      | inr k ↦ in-right d one other (Contains-in d other k)
    ]))),
  );
}

-- ---- Nothing more

itself : (dues : List Due) → IsStrictlySortedBy due_cmp dues → in_order (dues ++ []) ≡ dues
itself dues ascend = sym (is-in_order dues (dues ++ []) ascend (λ d i. in-left d dues [] i) (λ d i. elim (in-append d dues [] i) [ inl k ↦ k | inr none ↦ absurd none ]))

pub nothing-more : (t : TableView) (s : DuesState) (x : Step DuesState) → IsListed (dues_steps t s) x → owing x [] ≡ x
nothing-more t s x listed =
    let h = listed-IsStep t s x listed in
    let old = map (carry t h.form.reads) s.dues ++ owed t s.before h.form in
    let dues : x.next.dues ≡ h.dues = ap (λ (y : Step DuesState). y.next.dues) h.step in
    let same : in_order (x.next.dues ++ []) ≡ x.next.dues = itself x.next.dues (subst (IsStrictlySortedBy due_cmp) (sym dues) (gathered-are old h.dues h.left).ascend) in
    λ i. record x { next = record x.next { dues = same i } }

-- a step of the base stays as it is, where its gate is open and the bars leave nothing more
pub step-free : (t : TableView) (s : DuesState) (x : Step DuesState) → IsListed (dues_steps t (base_of t s)) x → opens s (gate_of t x) ≡ true → more t (bars s) x ≡ Some []
    → step_past t s x ≡ x ∷ []
step-free t s x listed through none =
    ap₂ (λ b o. cond b (owing_if x o) []) through none ∙ ap (λ (y : Step DuesState). y ∷ []) (nothing-more t (base_of t s) x listed)

-- ---- One base

pub one-base : (t : TableView) (s : DuesState) → base_of t (base_of t s) ≡ base_of t s
one-base t s =
    let same = asked-alike t s.before in
    λ i. record (base_of t s) { before = told (sym same.same_gap i) (sym same.same_digit i) (sym same.same_letter i) (sym same.same_upper i) }
