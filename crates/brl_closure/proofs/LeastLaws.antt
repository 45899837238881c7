-- The least of some numbers, and of some pairs of numbers.
use Rattle.std.proofs.Common.{◌≡◌, ℕ, suc, ◌+◌, ◌<◌, ◌≤◌, true, false, ◌⊎◌, inl, inr, Option, Some, None, ◌↔◌, refl, sym, ◌∙◌, subst, arith}
use Rattle.std.specs.Prelude.{nat_lt}
use Rattle.std.specs.Option.{option_map}
use Rattle.std.proofs.lemmas.Bool.{cases_eq}
use Rattle.std.proofs.lemmas.Bool.Decides.{eqb_tells, leb_tells}
use Rattle.brl_closure.specs.Least.{IsLeast, IsLeastFound, IsLeastPair, IsLeastPairFound, comes_before, lesser_of}

-- none below this number, so it is the least
pub least_here : (Has : ℕ → Type 0) (n : ℕ) → Has n → ((k : ℕ) → k < n → Has k → ⊥) → IsLeast Has n
least_here Has n has below = record {
  has = has;
  below_all = λ k h. elim (order k n) [ inl lt ↦ absurd (below k lt h) | inr ge ↦ ge ];
}
  where
    order : (k m : ℕ) → (k < m) ⊎ (m ≤ k)
    order k m = grind arith

-- one number more without the property
pub one_more : (Has : ℕ → Type 0) (n : ℕ) → ((k : ℕ) → k < n → Has k → ⊥) → (Has n → ⊥) → (k : ℕ) → k < n + 1 → Has k → ⊥
one_more Has n below here k lt h = elim (cases_eq k n) [ inl e ↦ here (subst Has e h) | inr ne ↦ below k (omega arith) h ]

-- the same numbers have the same least
pub same_least : (A B : ℕ → Type 0) → ((n : ℕ) → A n ↔ B n) → (found : Option ℕ) → IsLeastFound A found → IsLeastFound B found
same_least A B same None none = λ n h. none n ((same n).1 h)
same_least A B same (Some n) least = record { has = (same n).0 least.has; below_all = λ k h. least.below_all k ((same k).1 h) }

pub same_least_pair : (A B : ℕ → ℕ → Type 0) → ((f s : ℕ) → A f s ↔ B f s) → (found : Option (ℕ × ℕ)) → IsLeastPairFound A found → IsLeastPairFound B found
same_least_pair A B same None none = λ f s h. none f s ((same f s).1 h)
same_least_pair A B same (Some p) least = record { has = (same p.0 p.1).0 least.has; before_all = λ f s h. least.before_all f s ((same f s).1 h) }

-- with this second number
pub with_second : (A : ℕ → Type 0) (second : ℕ) (found : Option ℕ) → IsLeastFound A found → IsLeastPairFound (λ f s. A f × (s ≡ second)) (option_map (λ first. (first, second)) found)
with_second A second None none = λ f s h. none f h.0
with_second A second (Some first) least = record { has = (least.has, refl); before_all = λ f s h. at_or_behind f s (least.below_all f h.0) h.1 }
  where
    at_or_behind : (f s : ℕ) → first ≤ f → s ≡ second → (first < f) ⊎ ((first ≡ f) × (second ≤ s))
    at_or_behind f s le is = elim (cases_eq first f) [ inl e ↦ inr (e, omega (arith, is)) | inr apart ↦ inl (omega arith) ]

-- which of two pairs comes first
before_or : (p q : ℕ × ℕ) → ((comes_before q p ≡ true) × ((q.0 < p.0) ⊎ ((q.0 ≡ p.0) × (q.1 ≤ p.1)))) ⊎ ((comes_before q p ≡ false) × ((p.0 < q.0) ⊎ ((p.0 ≡ q.0) × (p.1 ≤ q.1))))
before_or p q =
    elim (ltb_or q.0 p.0) [
      | inl lt ↦ inl (rw lt.0 refl, inl lt.1)
      | inr ge ↦ elim (eqb_tells q.0 p.0) [
        | inr apart ↦ inr (rw (ge.0, apart.0) refl, inl (below q.0 p.0 ge.1 apart.1))
        | inl same ↦ elim (ltb_or q.1 p.1) [
          | inl lt ↦ inl (rw (ge.0, same.0, lt.0) refl, inr (same.1, omega (arith, lt.1)))
          | inr more ↦ inr (rw (ge.0, same.0, more.0) refl, inr (sym same.1, more.1))
        ]
      ]
    ]
  where
    ltb_or : (a b : ℕ) → ((nat_lt a b ≡ true) × (a < b)) ⊎ ((nat_lt a b ≡ false) × (b ≤ a))
    ltb_or a b = elim (leb_tells (suc a) b) [ inl t ↦ inl (t.0, omega (arith, t.1)) | inr t ↦ inr (t.0, omega (arith, t.1)) ]

    below : (a b : ℕ) → b ≤ a → (a ≡ b → ⊥) → b < a
    below a b ge ne = elim (cases_eq a b) [ inl e ↦ absurd (ne e) | inr apart ↦ omega arith ]

abbrev pub AtOrBehind : ℕ × ℕ → ℕ → ℕ → Type 0
AtOrBehind p f s = (p.0 < f) ⊎ ((p.0 ≡ f) × (p.1 ≤ s))

behind_too : (p q : ℕ × ℕ) → AtOrBehind p q.0 q.1 → (f s : ℕ) → AtOrBehind q f s → AtOrBehind p f s
behind_too p q h f s k =
    elim h [
      | inl lt ↦ elim k [ inl more ↦ inl (omega arith) | inr same ↦ inl (omega (arith, same.0)) ]
      | inr e ↦ elim k [ inl more ↦ inl (omega (arith, e.0)) | inr same ↦ inr (e.0 ∙ same.0, omega (arith, e.1, same.1)) ]
    ]

pub at_or_behind : (p : ℕ × ℕ) (f s : ℕ) → p.0 ≤ f → p.1 ≤ s → AtOrBehind p f s
at_or_behind p f s first second = elim (cases_eq p.0 f) [ inl same ↦ inr (same, second) | inr apart ↦ inl (omega (arith, first, apart)) ]

-- each number of A is one of B, and each number of B has one of A that isn't above it: both have
-- the same least
pub least_of_more : (A B : ℕ → Type 0) → ((n : ℕ) → A n → B n) → ((n : ℕ) → B n → (k : ℕ) × A k × (k ≤ n)) → (found : Option ℕ) → IsLeastFound A found → IsLeastFound B found
least_of_more A B within lesser None none = λ n h. (let k = lesser n h in none k.0 k.1)
least_of_more A B within lesser (Some m) least = record {
  has = within m least.has;
  below_all = λ n h. (let k = lesser n h in omega (arith, least.below_all k.0 k.1, k.2));
}

pub least_of_more_pair : (A B : ℕ → ℕ → Type 0) → ((f s : ℕ) → A f s → B f s) → ((f s : ℕ) → B f s → (p : ℕ × ℕ) × A p.0 p.1 × AtOrBehind p f s) → (found : Option (ℕ × ℕ)) → IsLeastPairFound A found → IsLeastPairFound B found
least_of_more_pair A B within lesser None none = λ f s h. (let p = lesser f s h in none p.0.0 p.0.1 p.1)
least_of_more_pair A B within lesser (Some p) least = record {
  has = within p.0 p.1 least.has;
  before_all = λ f s h. (let q = lesser f s h in behind_too p q.0 (least.before_all q.0.0 q.0.1 q.1) f s q.2);
}

-- the least of two kinds together
pub least_of_both : (A B : ℕ → ℕ → Type 0) (one other : Option (ℕ × ℕ)) → IsLeastPairFound A one → IsLeastPairFound B other → IsLeastPairFound (λ f s. A f s ⊎ B f s) (lesser_of one other)
least_of_both A B None None none none' = λ f s h. elim h [ inl a ↦ none f s a | inr b ↦ none' f s b ]
least_of_both A B None (Some q) none least = record { has = inr least.has; before_all = λ f s h. elim h [ inl a ↦ absurd (none f s a) | inr b ↦ least.before_all f s b ] }
least_of_both A B (Some p) None least none = record { has = inl least.has; before_all = λ f s h. elim h [ inl a ↦ least.before_all f s a | inr b ↦ absurd (none f s b) ] }
least_of_both A B (Some p) (Some q) least least' =
    elim (before_or p q) [
      | inl t ↦ rw t.0 (record {
        has = inr least'.has;
        before_all = λ f s h. elim h [ inl a ↦ behind_too q p t.1 f s (least.before_all f s a) | inr b ↦ least'.before_all f s b ];
      })
      | inr t ↦ rw t.0 (record {
        has = inl least.has;
        before_all = λ f s h. elim h [ inl a ↦ least.before_all f s a | inr b ↦ behind_too p q t.1 f s (least'.before_all f s b) ];
      })
    ]

-- nothing was found
pub none_found : (Has : ℕ → Type 0) (found : Option ℕ) → ((n : ℕ) → found ≡ Some n → ⊥) → IsLeastFound Has found → (n : ℕ) → Has n → ⊥
none_found Has None apart none = none
none_found Has (Some n) apart least = absurd (apart n refl)

pub none_found_pair : (Has : ℕ → ℕ → Type 0) (found : Option (ℕ × ℕ)) → ((p : ℕ × ℕ) → found ≡ Some p → ⊥) → IsLeastPairFound Has found → (f s : ℕ) → Has f s → ⊥
none_found_pair Has None apart none = none
none_found_pair Has (Some p) apart least = absurd (apart p refl)

-- this was found
pub this_found : (Has : ℕ → Type 0) (found : Option ℕ) (n : ℕ) → found ≡ Some n → IsLeastFound Has found → IsLeast Has n
this_found Has found n is least = subst (λ (o : Option ℕ). IsLeastFound Has o) is least

pub this_found_pair : (Has : ℕ → ℕ → Type 0) (found : Option (ℕ × ℕ)) (p : ℕ × ℕ) → found ≡ Some p → IsLeastPairFound Has found → IsLeast (λ f. (s : ℕ) × Has f s) p.0 × IsLeast (Has p.0) p.1
this_found_pair Has found p is least =
    let both : IsLeastPair Has p = subst (λ (o : Option (ℕ × ℕ)). IsLeastPairFound Has o) is least in (
      record { has = (p.1, both.has); below_all = λ f h. elim (both.before_all f h.0 h.1) [ inl lt ↦ omega (arith, lt) | inr e ↦ omega (arith, e.0) ] },
      record { has = both.has; below_all = λ s h. elim (both.before_all p.0 s h) [ inl lt ↦ absurd (omega (arith, lt)) | inr e ↦ e.1 ] },
    )
