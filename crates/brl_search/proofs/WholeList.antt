-- A whole list has just the pairs of rules at which the traces of clashing texts diverge, so there
-- is one.
use Rattle.std.proofs.Common.{◌≡◌, ◌∙◌, ◌≤◌, ℕ, zero, suc, false, IsTrue, List, [], ◌∷◌, inl, inr, Some, take, refl, sym, ap, arith, subst, subst₂}
use Rattle.std.specs.Prelude.{slice_get}
use Rattle.std.specs.List.{AllByRecursion, AllZip}
use Rattle.std.specs.List.Sorted.{IsStrictlySortedBy}
use Rattle.std.specs.Cmp.{IsTotalOrder}
use Rattle.std.specs.declared.cmp.Ordering.{Ordering}
use Rattle.std.specs.declared.cmp.Ordering.TheVariants.{Equal, Less}
use Rattle.std.proofs.lemmas.Cmp.{nat_cmp_total, on_total, then_total, tied_itself}
use Rattle.std.proofs.lemmas.Bool.{or_cases}
use Rattle.std.proofs.lemmas.List.Elements.{recursion_from_All}
use Rattle.brl_divergence.specs.Listed.{compare_rules}
use Rattle.brl_divergence.proofs.Complete.{same_rules}
use Rattle.brl_divergence.proofs.Rules.{has_listed, has_one, has_one_back}
use Rattle.brl_forward.specs.Trace.{trace_of}
use Rattle.brl_forward.specs.declared.steps.Traced.{Traced}
use Rattle.brl_pairs.specs.Divergence.{are_rules, has_rules}
use Rattle.brl_pairs.proofs.Divergence.{either_rules}
use Rattle.brl_pairs.proofs.Listing.{IsIn, in-Contains}
use Rattle.brl_rules.specs.TableView.{TableView}
use Rattle.brl_search.specs.Clashes.{AreJustThose, AreRuleClashes, ClashesDiverge, IsRuleClash, rules_of_clashes}
use Rattle.brl_traces.specs.Traces.{ClashesDivergeAtWithout, IsSameStep}
use Rattle.brl_search.specs.declared.table_clashes.RuleClash.{RuleClash}
use Rattle.brl_traces.proofs.Together.{diverging}

-- ---- Ascending lists

module _ {K : Type 0} (R : K → K → Ordering) (total : IsTotalOrder R) where
  abbrev Below : K → List K → Type 0
  Below x xs = AllByRecursion (λ y. R x y ≡ Less) xs

  below_in : (x z : K) (xs : List K) → Below x xs → IsIn z xs → R x z ≡ Less
  below_in x z [] a i = absurd i
  below_in x z (y ∷ xs) a (inl h) = ap (R x) h ∙ a.0
  below_in x z (y ∷ xs) a (inr i) = below_in x z xs a.1 i

  never_less : (x : K) → R x x ≡ Less → ⊥
  never_less x h = (let e : Less ≡ Equal = sym h ∙ tied_itself total x in cc)

  same_first : (x y : K) (xs ys : List K) → Below x xs → Below y ys → IsIn x (y ∷ ys) → IsIn y (x ∷ xs) → x ≡ y
  same_first x y xs ys a b (inl h) j = h
  same_first x y xs ys a b (inr k) (inl h) = sym h
  same_first x y xs ys a b (inr k) (inr l) = absurd (never_less x (total.trans x y x (below_in x y xs a l) (below_in y x ys b k)))

  in_rest : (x y : K) (xs ys : List K) → Below x xs → x ≡ y → ((z : K) → IsIn z (x ∷ xs) → IsIn z (y ∷ ys)) → (z : K) → IsIn z xs → IsIn z ys
  in_rest x y xs ys a e f z i = elim (f z (inr i)) [
    | inl h ↦ absurd (never_less x (subst (λ w. R x w ≡ Less) (h ∙ sym e) (below_in x z xs a i)))
    | inr k ↦ k
  ]

  -- ascending lists with the same members are one
  one_order : (xs ys : List K) → IsStrictlySortedBy R xs → IsStrictlySortedBy R ys → ((x : K) → IsIn x xs → IsIn x ys) → ((x : K) → IsIn x ys → IsIn x xs) → xs ≡ ys
  unfolding IsStrictlySortedBy
  one_order [] [] s t f g = refl
  one_order [] (y ∷ ys) s t f g = absurd (g y (inl refl))
  one_order (x ∷ xs) [] s t f g = absurd (f x (inl refl))
  one_order (x ∷ xs) (y ∷ ys) s t f g =
      let e = same_first x y xs ys s.0 t.0 (f x (inl refl)) (g y (inl refl)) in
      let rest = one_order xs ys s.1 t.1 (in_rest x y xs ys s.0 e f) (in_rest y x ys xs t.0 (sym e) g) in
      ap (λ a. a ∷ xs) e ∙ ap (λ b. y ∷ b) rest

-- the order of pairs of rules is total
rules_total : IsTotalOrder compare_rules
rules_total = then_total (on_total (λ (p : ℕ × ℕ). p.0) nat_cmp_total) (on_total (λ (p : ℕ × ℕ). p.1) nat_cmp_total)

-- ---- Where traces diverge

-- two lists diverge at one place
pub one_place : (R : Traced → Traced → Type 0) (xs ys : List Traced) (i j : ℕ) (x y u v : Traced) → AllZip R (take i xs) (take i ys) → slice_get xs i ≡ Some x → slice_get ys i ≡ Some y → (R x y → ⊥)
    → AllZip R (take j xs) (take j ys) → slice_get xs j ≡ Some u → slice_get ys j ≡ Some v → (R u v → ⊥) → (x ≡ u) × (y ≡ v)
one_place R [] ys i j x y u v before x_at y_at differ same u_at v_at differs = absurd cc
one_place R (a ∷ xs) [] i j x y u v before x_at y_at differ same u_at v_at differs = absurd cc
one_place R (a ∷ xs) (b ∷ ys) zero zero x y u v before x_at y_at differ same u_at v_at differs = (cc, cc)
one_place R (a ∷ xs) (b ∷ ys) zero (suc j) x y u v before x_at y_at differ same u_at v_at differs =
    let first : a ≡ x = cc in
    let second : b ≡ y = cc in
    absurd (differ (subst₂ R first second same.0))
one_place R (a ∷ xs) (b ∷ ys) (suc i) zero x y u v before x_at y_at differ same u_at v_at differs =
    let first : a ≡ u = cc in
    let second : b ≡ v = cc in
    absurd (differs (subst₂ R first second before.0))
one_place R (a ∷ xs) (b ∷ ys) (suc i) (suc j) x y u v before x_at y_at differ same u_at v_at differs =
    one_place R xs ys i j x y u v before.1 x_at y_at differ same.1 u_at v_at differs

-- where two rules are those of one pair and are listed, the pair is listed
pub pair_listed : (rules : List (ℕ × ℕ)) (r s a b : ℕ) → IsTrue (has_rules ((r, s) ∷ []) a b) → IsTrue (has_rules rules a b) → IsTrue (has_rules rules r s)
pair_listed rules r s a b one there = elim (or_cases (are_rules a b (r, s)) false one) [
  | inl is ↦ elim (same_rules a b (r, s) is) [
    | inl e ↦ subst₂ (λ (u v : ℕ). IsTrue (has_rules rules u v)) (sym e.0) (sym e.1) there
    | inr e ↦ subst₂ (λ (u v : ℕ). IsTrue (has_rules rules u v)) (sym e.0) (sym e.1) (either_rules rules b a ∙ there)
  ]
  | inr none ↦ absurd cc
]

-- two rules that are those of a pair are those of the same pair in either order
pair_again : (r s a b : ℕ) (pair : ℕ × ℕ) → IsTrue (are_rules r s pair) → IsTrue (has_rules (pair ∷ []) a b) → IsTrue (has_rules ((r, s) ∷ []) a b)
pair_again r s a b pair here one = pair_listed ((r, s) ∷ []) a b pair.0 pair.1 (turned one) (own here)
  where
    turned : IsTrue (has_rules (pair ∷ []) a b) → IsTrue (has_rules ((a, b) ∷ []) pair.0 pair.1)
    turned h = elim (or_cases (are_rules a b pair) false h) [
      | inl is ↦ elim (same_rules a b pair is) [
        | inl e ↦ subst₂ (λ (u v : ℕ). IsTrue (has_rules ((a, b) ∷ []) u v)) (sym e.0) (sym e.1) (has_one a b)
        | inr e ↦ subst₂ (λ (u v : ℕ). IsTrue (has_rules ((a, b) ∷ []) u v)) (sym e.0) (sym e.1) (has_one_back a b)
      ]
      | inr none ↦ absurd cc
    ]

    own : IsTrue (are_rules r s pair) → IsTrue (has_rules ((r, s) ∷ []) pair.0 pair.1)
    own is = elim (same_rules r s pair is) [
      | inl e ↦ subst₂ (λ (u v : ℕ). IsTrue (has_rules ((r, s) ∷ []) u v)) (sym e.0) (sym e.1) (has_one r s)
      | inr e ↦ subst₂ (λ (u v : ℕ). IsTrue (has_rules ((r, s) ∷ []) u v)) (sym e.0) (sym e.1) (has_one_back r s)
    ]

-- ---- What is listed

module _ (left_out : List ℕ) (t : TableView) where
  -- clashing texts diverge at a listed pair of rules
  is_listed : (rules : List (ℕ × ℕ)) → ClashesDivergeAtWithout left_out rules t → (r s : ℕ) → ClashesDiverge left_out t r s → IsTrue (has_rules rules r s)
  is_listed rules no_other r s h =
      let clash = h.clash.clash in
      elim (no_other h.left h.right clash.left_text clash.right_text h.clash.left_without h.clash.right_without (clash.left_cells ∙ sym clash.right_cells)) [
        | inl same ↦ absurd (clash.differ same)
        | inr at ↦ (
            let d = h.diverge in
            let same = one_place (IsSameStep t h.left h.right) (trace_of t h.left) (trace_of t h.right) at.place d.place at.one at.other d.one d.other at.before at.one_there at.other_there at.differ d.before d.one_there d.other_there d.differ in
            pair_listed rules r s d.one.rule d.other.rule d.pair (subst₂ (λ (x y : Traced). IsTrue (has_rules rules x.rule y.rule)) same.0 same.1 at.pair))
      ]

  -- a listed pair of rules has clashing texts that diverge at it
  has_clash : (list : List RuleClash) → AllByRecursion (IsRuleClash left_out t) list → (r s : ℕ) → IsTrue (has_rules (rules_of_clashes list) r s) → ClashesDiverge left_out t r s
  has_clash [] each r s has = absurd cc
  has_clash (c ∷ list) each r s has = elim (or_cases (are_rules r s (c.lesser, c.greater)) (has_rules (rules_of_clashes list) r s) has) [
    | inl here ↦ (
        let at = each.0.diverge in
        record {
          left = c.clash.left;
          right = c.clash.right;
          cells = c.clash.cells;
          clash = each.0.clash;
          diverge = diverging t ((r, s) ∷ []) c.clash.left c.clash.right at.place at.one at.other at.before at.one_there at.other_there at.differ
              (pair_again r s at.one.rule at.other.rule (c.lesser, c.greater) here at.pair);
        })
    | inr later ↦ has_clash list each.1 r s later
  ]

  pub just_those : (list : List RuleClash) → AreRuleClashes left_out t list → ClashesDivergeAtWithout left_out (rules_of_clashes list) t → AreJustThose left_out t (rules_of_clashes list)
  just_those list clashes no_other r s = (
    has_clash list (recursion_from_All (IsRuleClash left_out t) list clashes.each) r s,
    is_listed (rules_of_clashes list) no_other r s,
  )

-- ---- One list

module _ (left_out : List ℕ) (t : TableView) where
  -- of a pair of rules that is listed the lesser number comes first
  first_lesser : (list : List RuleClash) → AllByRecursion (IsRuleClash left_out t) list → (pair : ℕ × ℕ) → IsIn pair (rules_of_clashes list) → pair.0 ≤ pair.1
  first_lesser [] each pair i = absurd i
  first_lesser (c ∷ list) each pair (inl is) = subst (λ (p : ℕ × ℕ). p.0 ≤ p.1) (sym is) each.0.in_order
  first_lesser (c ∷ list) each pair (inr i) = first_lesser list each.1 pair i

  -- so a pair whose rules are listed in either order is in the list
  has_pair_in : (list : List RuleClash) → AllByRecursion (IsRuleClash left_out t) list → (pair : ℕ × ℕ) → pair.0 ≤ pair.1 → IsTrue (has_rules (rules_of_clashes list) pair.0 pair.1) → IsIn pair (rules_of_clashes list)
  has_pair_in [] each pair in_order has = absurd cc
  has_pair_in (c ∷ list) each pair in_order has = elim (or_cases (are_rules pair.0 pair.1 (c.lesser, c.greater)) (has_rules (rules_of_clashes list) pair.0 pair.1) has) [
    | inl here ↦ elim (same_rules pair.0 pair.1 (c.lesser, c.greater) here) [
      | inl e ↦ inl (same_pair pair (c.lesser, c.greater) (sym e.0) (sym e.1))
      | inr e ↦ (
          let ordered = each.0.in_order in
          let equal : pair.0 ≡ pair.1 = omega (arith, ordered, in_order, e.0, e.1) in
          inl (same_pair pair (c.lesser, c.greater) (equal ∙ sym e.0) (sym equal ∙ sym e.1)))
    ]
    | inr later ↦ inr (has_pair_in list each.1 pair in_order later)
  ]
    where
      same_pair : (p q : ℕ × ℕ) → p.0 ≡ q.0 → p.1 ≡ q.1 → p ≡ q
      same_pair (a, b) (c, d) first second = cc

  pub one_list : (list other : List RuleClash) → AreRuleClashes left_out t list → AreRuleClashes left_out t other → AreJustThose left_out t (rules_of_clashes list) → AreJustThose left_out t (rules_of_clashes other)
      → rules_of_clashes list ≡ rules_of_clashes other
  one_list list other clashes others just just_too =
      one_order compare_rules rules_total (rules_of_clashes list) (rules_of_clashes other) clashes.ascending others.ascending
      (λ pair i. across list other clashes others just just_too pair i) (λ pair i. across other list others clashes just_too just pair i)
    where
      across : (xs ys : List RuleClash) → AreRuleClashes left_out t xs → AreRuleClashes left_out t ys → AreJustThose left_out t (rules_of_clashes xs) → AreJustThose left_out t (rules_of_clashes ys)
          → (pair : ℕ × ℕ) → IsIn pair (rules_of_clashes xs) → IsIn pair (rules_of_clashes ys)
      across xs ys x_each y_each x_just y_just pair i =
          has_pair_in ys (recursion_from_All (IsRuleClash left_out t) ys y_each.each) pair (first_lesser xs (recursion_from_All (IsRuleClash left_out t) xs x_each.each) pair i)
          ((y_just pair.0 pair.1).1 ((x_just pair.0 pair.1).0 (has_listed (rules_of_clashes xs) pair.0 pair.1 (in-Contains pair (rules_of_clashes xs) i))))
