-- The worked machine of two letters keeps the laws, and its sets are closed.
use Rattle.std.proofs.Common.{◌≡◌, ℕ, zero, suc, Bool, true, false, ◌||◌, List, [], ◌∷◌, ◌++◌, ◌⊎◌, inl, inr, length, Some, refl, sym, ◌∙◌, ap, subst, arith, lit≤, nat_eq, eqb-true}
use Rattle.std.specs.List.{flat_map, list_all}
use Rattle.std.specs.Cmp.{first_so, second_so}
use Rattle.brl_pairs.specs.declared.step.Pair.{Pair}
use Rattle.brl_pairs.specs.declared.step.Step.{Step}
use Rattle.brl_pairs.specs.Runs.{IsListed, IsListedAt, IsPath, IsGoodStep, IsInOrder, KeepsLaws, reads_of, cells_of}
use Rattle.brl_pairs.specs.Pairs.{Splits, Follows, HasPair, IsClosed, numbered}
use Rattle.brl_pairs.specs.Divergence.{HaveRules, IsClosedBut}
use Rattle.brl_pairs.specs.Examples.{is_letter, cells_of_letter, letter_step, letter_steps, letters, letter_states, letter_pairs, b_before_a, a_or_b, no_pairs}

abbrev a_step : Step Bool
a_step = letter_step 0 97 (1 ∷ [])

abbrev b_step : Step Bool
b_step = letter_step 1 98 (1 ∷ 3 ∷ [])

-- a listed step is one of the two
one_of_two : (i : ℕ) (x : Step Bool) → IsListedAt letter_steps i x → ((i ≡ 0) × (a_step ≡ x)) ⊎ ((i ≡ 1) × (b_step ≡ x))
one_of_two zero x e = inl (refl, cc)
one_of_two (suc zero) x e = inr (refl, cc)
one_of_two (suc (suc i)) x e = cc

good_letters : (x : Step Bool) → IsListed letter_steps x → IsGoodStep x
good_letters x l = elim (one_of_two l.0 x l.1) [
  | inl h ↦ subst IsGoodStep h.1 (record { some_cells = lit≤ tt; few_cells = lit≤ tt; some_reads = lit≤ tt })
  | inr h ↦ subst IsGoodStep h.1 (record { some_cells = lit≤ tt; few_cells = lit≤ tt; some_reads = lit≤ tt })
]

letters_in_order : IsInOrder letter_steps
letters_in_order i j x y less x_at y_at =
    elim (one_of_two i x x_at) [
      | inl p ↦ elim (one_of_two j y y_at) [
        | inl q ↦ absurd (let a : i ≡ 0 = p.0 in let b : j ≡ 0 = q.0 in omega arith)
        | inr q ↦ record {
          differ = λ same. (let r : 0 ≡ 1 = ap (λ (z : Step Bool). z.rule) (p.1 ∙ same ∙ sym q.1) in absurd (omega arith));
          ascend = let a : 0 ≡ x.rule = ap (λ (z : Step Bool). z.rule) p.1 in omega arith;
        }
      ]
      | inr p ↦ elim (one_of_two j y y_at) [
        | inl q ↦ absurd (let a : i ≡ 1 = p.0 in let b : j ≡ 0 = q.0 in omega arith)
        | inr q ↦ absurd (let a : i ≡ 1 = p.0 in let b : j ≡ 1 = q.0 in omega arith)
      ]
    ]

-- a path from a state, which reads a text and gives its translation
record Reads (s : Bool) (text : List ℕ) : Type 0 where
  path : List (Step Bool)
  is_path : IsPath letters s path
  reads : reads_of path ≡ text
  cells : cells_of path ≡ flat_map cells_of_letter text

one_letter : (c : ℕ) → is_letter c ≡ true → (c ≡ 97) ⊎ (c ≡ 98)
one_letter c h = at (nat_eq c 97) refl h
  where
    at : (b : Bool) → nat_eq c 97 ≡ b → (b || nat_eq c 98) ≡ true → (c ≡ 97) ⊎ (c ≡ 98)
    at true e k = inl (eqb-true c 97 e)
    at false e k = inr (eqb-true c 98 k)

letters_read : (s : Bool) (text : List ℕ) → list_all is_letter text ≡ true → Reads s text
letters_read s [] h = record { path = []; is_path = refl; reads = refl; cells = refl }
letters_read s (c ∷ text) h =
    let rest = letters_read true text (second_so (is_letter c) (list_all is_letter text) h) in
    elim (one_letter c (first_so (is_letter c) (list_all is_letter text) h)) [
      | inl e ↦ record {
        path = a_step ∷ rest.path;
        is_path = ((0, refl), rest.is_path);
        reads = let r : 97 ≡ c = sym e in let q : reads_of rest.path ≡ text = rest.reads in cc;
        cells = subst (λ (n : ℕ). 1 ∷ cells_of rest.path ≡ cells_of_letter n ++ flat_map cells_of_letter text) (sym e) (ap (λ (zs : List ℕ). 1 ∷ zs) rest.cells);
      }
      | inr e ↦ record {
        path = b_step ∷ rest.path;
        is_path = ((1, refl), rest.is_path);
        reads = let r : 98 ≡ c = sym e in let q : reads_of rest.path ≡ text = rest.reads in cc;
        cells = subst (λ (n : ℕ). 1 ∷ 3 ∷ cells_of rest.path ≡ cells_of_letter n ++ flat_map cells_of_letter text) (sym e) (ap (λ (zs : List ℕ). 1 ∷ 3 ∷ zs) rest.cells);
      }
    ]

pub letters_KeepsLaws : KeepsLaws letters
letters_KeepsLaws = record {
  good_steps = λ s. good_letters;
  in_order = λ s. letters_in_order;
  accepts = λ text h. (let p = letters_read false text h in record { path = p.path; is_path = p.is_path; reads = p.reads; cells = p.cells });
}

-- ---- Closed sets

-- every step leads to the state after a letter
ends_behind : (x : Step Bool) → IsListed letter_steps x → true ≡ x.next
ends_behind x l = elim (one_of_two l.0 x l.1) [ inl h ↦ ap (λ (z : Step Bool). z.next) h.1 | inr h ↦ ap (λ (z : Step Bool). z.next) h.1 ]

-- a pair with these states and this lead is the stored one
is_stored : (p : Pair Bool) → true ≡ p.ahead → true ≡ p.behind → 3 ∷ [] ≡ p.lead → letter_pairs 0 ≡ Some p
is_stored p ahead behind lead = λ i. Some (record { ahead = ahead i; behind = behind i; lead = lead i })

only_stored : (number : ℕ) (p : Pair Bool) → letter_pairs number ≡ Some p → b_before_a ≡ p
only_stored zero p e = cc
only_stored (suc number) p e = cc

-- the cells of a step begin with dot 1
begins : (x : Step Bool) → IsListed letter_steps x → (rest : List ℕ) × (1 ∷ rest ≡ x.cells)
begins x l = elim (one_of_two l.0 x l.1) [
  | inl h ↦ ([], ap (λ (z : Step Bool). z.cells) h.1)
  | inr h ↦ (3 ∷ [], ap (λ (z : Step Bool). z.cells) h.1)
]

-- what begins with dot 1 doesn't begin with dots 12
other_cells : (xs ys : List ℕ) → 3 ∷ xs ≡ 1 ∷ ys → ⊥
other_cells xs ys e = cc

letters_split : (s : Bool) (p : Pair Bool) → Splits (letters.steps s) p → HasPair (numbered letter_states letter_pairs) p
letters_split s p split =
    elim (one_of_two split.i split.longer split.longer_listed) [
      | inl x ↦ elim (one_of_two split.j split.shorter split.shorter_listed) [
        | inl y ↦ absurd (split.differ (x.0 ∙ sym y.0))
        | inr y ↦ absurd (
            let e : 1 ∷ [] ≡ (1 ∷ 3 ∷ []) ++ p.lead = ap (λ (z : Step Bool). z.cells) x.1 ∙ split.lead ∙ ap (λ (z : Step Bool). z.cells ++ p.lead) (sym y.1) in
            let n = ap length e in omega (arith, n))
      ]
      | inr x ↦ elim (one_of_two split.j split.shorter split.shorter_listed) [
        | inl y ↦ (
            let e : 1 ∷ 3 ∷ [] ≡ (1 ∷ []) ++ p.lead = ap (λ (z : Step Bool). z.cells) x.1 ∙ split.lead ∙ ap (λ (z : Step Bool). z.cells ++ p.lead) (sym y.1) in
            let lead : 3 ∷ [] ≡ p.lead = cc in
            inl (0, is_stored p (ap (λ (z : Step Bool). z.next) x.1 ∙ sym split.ahead) (ap (λ (z : Step Bool). z.next) y.1 ∙ sym split.behind) lead))
        | inr y ↦ absurd (split.differ (x.0 ∙ sym y.0))
      ]
    ]

letters_move : (p q : Pair Bool) → b_before_a ≡ p → Follows letters p q → ⊥
letters_move p q stored move =
    let first = begins move.step move.listed in
    let lead : 3 ∷ [] ≡ p.lead = ap (λ (z : Pair Bool). z.lead) stored in
    elim move.moved [
      | inl m ↦ other_cells [] (first.0 ++ q.lead) (lead ∙ m.lead ∙ ap (λ (zs : List ℕ). zs ++ q.lead) (sym first.1))
      | inr m ↦ other_cells q.lead first.0 (ap (λ (zs : List ℕ). zs ++ q.lead) lead ∙ sym m.lead ∙ sym first.1)
    ]

pub letters_IsClosed : IsClosed letters (numbered letter_states letter_pairs)
letters_IsClosed = record {
  start = (0, refl);
  steps = λ s x has listed. (1, ap (λ (z : Bool). Some z) (ends_behind x listed));
  splits = λ s p has split. letters_split s p split;
  moves = λ p q has move. absurd (letters_move p q (only_stored has.0 p has.1) move);
  ends = λ p has empty ahead behind.
      (let e : 3 ∷ [] ≡ [] = ap (λ (z : Pair Bool). z.lead) (only_stored has.0 p has.1) ∙ empty in cc);
}

-- ---- Closed sets but for the pair of rules

-- any two steps at different places have the two rules
letters_HaveRules : (i j : ℕ) (x y : Step Bool) → IsListedAt letter_steps i x → IsListedAt letter_steps j y → (i ≡ j → ⊥) → HaveRules a_or_b x y
letters_HaveRules i j x y x_at y_at differ =
    elim (one_of_two i x x_at) [
      | inl p ↦ elim (one_of_two j y y_at) [
        | inl q ↦ absurd (differ (p.0 ∙ sym q.0))
        | inr q ↦ subst (λ (z : Step Bool). HaveRules a_or_b z y) p.1 (subst (λ (z : Step Bool). HaveRules a_or_b a_step z) q.1 refl)
      ]
      | inr p ↦ elim (one_of_two j y y_at) [
        | inl q ↦ subst (λ (z : Step Bool). HaveRules a_or_b z y) p.1 (subst (λ (z : Step Bool). HaveRules a_or_b b_step z) q.1 refl)
        | inr q ↦ absurd (differ (p.0 ∙ sym q.0))
      ]
    ]

no_pair : (number : ℕ) (p : Pair Bool) → no_pairs number ≡ Some p → ⊥
no_pair number p e = cc

pub letters_IsClosedBut : IsClosedBut letters a_or_b (numbered letter_states no_pairs)
letters_IsClosedBut = record {
  start = letters_IsClosed.start;
  steps = letters_IsClosed.steps;
  splits = λ s p has split. inl (letters_HaveRules split.i split.j split.longer split.shorter split.longer_listed split.shorter_listed split.differ);
  moves = λ p q has move. absurd (no_pair has.0 p has.1);
  ends = λ p has empty ahead behind. no_pair has.0 p has.1;
}
