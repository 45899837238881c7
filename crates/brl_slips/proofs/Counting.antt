-- In how many twins two letters differ, and which of them are shown.
use Rattle.std.proofs.Common.{◌≡◌, ◌≢◌, ◌≤◌, ◌<◌, ◌+◌, ◌++◌, ◌∷◌, ℕ, true, if◌then◌else◌, List, [], Option, None, Some, ap, subst, sym, ◌∙◌, arith, get_or, inl, inr, length, length-take, nat_eq, slice_get, take, true≢false}
use Rattle.std.specs.List.{AllPairs, Contains}
use Rattle.std.specs.Option.{option_and_then, option_map, unwrap_or}
use Rattle.std.specs.Prelude.{nat_le}
use Rattle.std.proofs.lemmas.Bool.{and_from, and_parts, cases_Bool, cond-false, cond-true, eq-eqb, eqb-true}
use Rattle.std.proofs.lemmas.List.Elements.{All-contains, All-weaker}
use Rattle.std.proofs.lemmas.Option.{none-some, same_Some, slice_get-get_or}
use Rattle.indexmap.specs.IndexMap.{IndexMap, UpdatesBy}
use Rattle.brl_slips.specs.Pairing.{AreAll, AreAsMany, AreCounted, are_letters, count_of}
use Rattle.brl_slips.specs.Slips.{piece_of}
use Rattle.brl_slips.specs.Twins.{AreRare, AreShown, IsCandidate, IsTwins, letter_at, letters}
use Rattle.brl_slips.specs.declared.lexicon.Lexicon.{Lexicon}
use Rattle.brl_slips.specs.declared.lexicon.Piece.{Piece}
use Rattle.brl_slips.specs.declared.twins.Twins.{Twins}
use Rattle.brl_slips.proofs.Once.{all-push, all-same, few_in, fresh_at, many-push, many-same, taken_cases, taken_new, taken_old}

-- twins have two letters
pub letters_there : (lexicon : Lexicon) (t : Twins) → IsTwins lexicon t → letters lexicon t ≡ None → ⊥
letters_there lexicon t are none =
    let at : (entry : ℕ) (piece : Piece) → piece_of lexicon entry ≡ Some piece → t.place < length piece.chars → letter_at lexicon entry t.place ≡ Some (get_or piece.chars t.place 0) =
    λ entry piece is within. ap (option_and_then (λ (p : Piece). slice_get p.chars t.place)) is ∙ slice_get-get_or piece.chars t.place 0 within in
    let one = at t.one are.left are.one are.characters.within in
    let other = at t.other are.right are.other (omega (arith, are.characters.within, are.characters.as_long)) in
    let pair : Option ℕ → Option ℕ → Option (ℕ × ℕ) = λ a b. option_and_then (λ (x : ℕ). option_map (λ (y : ℕ). if nat_le x y then (x, y) else (y, x)) b) a in
    none-some _ (sym none ∙ (λ i. pair (one i) (other i)))

pub letters_same : (one other : ℕ × ℕ) → are_letters one other ≡ true → one ≡ other
letters_same one other holds =
    let both = and_parts (nat_eq one.0 other.0) (nat_eq one.1 other.1) holds in
    let first : one.0 ≡ other.0 = eqb-true one.0 other.0 both.0 in
    let second : one.1 ≡ other.1 = eqb-true one.1 other.1 both.1 in
    λ i. (first i, second i)

same_letters : (one other : ℕ × ℕ) → one ≡ other → are_letters one other ≡ true
same_letters one other same = and_from (nat_eq one.0 other.0) (nat_eq one.1 other.1) (eq-eqb one.0 other.0 (ap (λ (p : ℕ × ℕ). p.0) same)) (eq-eqb one.1 other.1 (ap (λ (p : ℕ × ℕ). p.1) same))

-- after a change at two letters, a map has one more of them
pub count-insert : {S : Type 0} (m n : IndexMap (ℕ × ℕ) ℕ S) (pair : ℕ × ℕ) (w : ℕ) → UpdatesBy are_letters (are_letters pair) m n (Some w) → w ≡ count_of m pair + 1
    → (other : ℕ × ℕ) → count_of n other ≡ count_of m other + (if are_letters pair other then 1 else 0)
count-insert m n pair w updates more other = elim (cases_Bool (are_letters pair other)) [
  | inl same ↦
      ap (λ found. unwrap_or found 0) (updates.0 other ∙ cond-true (are_letters pair other) (Some w) _ same) ∙ more
      ∙ ap (λ p. count_of m p + 1) (letters_same pair other same) ∙ ap (λ r. count_of m other + r) (sym (cond-true (are_letters pair other) 1 0 same))
  | inr apart ↦
      ap (λ found. unwrap_or found 0) (updates.0 other ∙ cond-false (are_letters pair other) (Some w) _ apart)
      ∙ omega (arith, cond-false {A = ℕ} (are_letters pair other) 1 0 apart)
]

module _ (lexicon : Lexicon) (pairs : List Twins) (once : AllPairs (λ x y. x ≢ y) pairs) (i : ℕ) (t : Twins) (within : i < length pairs) (is : get_or pairs i t ≡ t) where
  -- one more, of two letters
  pub counted-push : {S : Type 0} (old new : IndexMap (ℕ × ℕ) ℕ S) (pair : ℕ × ℕ) → AreCounted lexicon (Contains (take i pairs)) old → letters lexicon t ≡ Some pair
      → ((other : ℕ × ℕ) → count_of new other ≡ count_of old other + (if are_letters pair other then 1 else 0))
      → AreCounted lexicon (Contains (take (i + 1) pairs)) new
  counted-push old new pair had has adds other =
      let Before = λ (y : Twins). Contains (take i pairs) y × (letters lexicon y ≡ Some other) in
      let After = λ (y : Twins). Contains (take (i + 1) pairs) y × (letters lexicon y ≡ Some other) in
      elim (cases_Bool (are_letters pair other)) [
        | inl same ↦
            subst (AreAsMany After) (sym (adds other ∙ ap (λ r. count_of old other + r) (cond-true (are_letters pair other) 1 0 same)))
            (many-push Before After (count_of old other) t
            (λ x. fresh_at pairs i t within is once x.0)
            (λ y x. (taken_old pairs i t within is y x.0, x.1))
            (taken_new pairs i t within is, has ∙ ap Some (letters_same pair other same))
            (λ y x. elim (taken_cases pairs i t within is y x.0) [ inl before ↦ inl (before, x.1) | inr now ↦ inr now ])
            (had other))
        | inr apart ↦
            subst (AreAsMany After) (omega (arith, adds other, cond-false {A = ℕ} (are_letters pair other) 1 0 apart))
            (many-same Before After (count_of old other)
            (λ y x. (taken_old pairs i t within is y x.0, x.1))
            (λ y x. elim (taken_cases pairs i t within is y x.0) [
              | inl before ↦ (before, x.1)
              | inr now ↦ absurd (true≢false (sym (same_letters pair other (same_Some pair other (sym has ∙ (ap (letters lexicon) now ∙ x.1)))) ∙ apart))
            ])
            (had other))
      ]

  -- of none
  pub counted-same : {S : Type 0} (old : IndexMap (ℕ × ℕ) ℕ S) → AreCounted lexicon (Contains (take i pairs)) old → letters lexicon t ≡ None → AreCounted lexicon (Contains (take (i + 1) pairs)) old
  counted-same old had none other =
      many-same (λ (y : Twins). Contains (take i pairs) y × (letters lexicon y ≡ Some other)) (λ (y : Twins). Contains (take (i + 1) pairs) y × (letters lexicon y ≡ Some other)) (count_of old other)
      (λ y x. (taken_old pairs i t within is y x.0, x.1))
      (λ y x. elim (taken_cases pairs i t within is y x.0) [
        | inl before ↦ (before, x.1)
        | inr now ↦ absurd (none-some other (sym none ∙ (ap (letters lexicon) now ∙ x.1)))
      ])
      (had other)

  -- one more that is rare, and one that isn't
  pub kept-push : (kept : List Twins) → AreRare lexicon (letters lexicon t) → AreAll (λ y. Contains (take i pairs) y × AreRare lexicon (letters lexicon y)) kept
      → AreAll (λ y. Contains (take (i + 1) pairs) y × AreRare lexicon (letters lexicon y)) (kept ++ t ∷ [])
  kept-push kept rare had =
      all-push (λ y. Contains (take i pairs) y × AreRare lexicon (letters lexicon y)) (λ y. Contains (take (i + 1) pairs) y × AreRare lexicon (letters lexicon y)) kept t
      (λ x. fresh_at pairs i t within is once x.0)
      (λ y x. (taken_old pairs i t within is y x.0, x.1))
      (taken_new pairs i t within is, rare)
      (λ y x. elim (taken_cases pairs i t within is y x.0) [ inl before ↦ inl (before, x.1) | inr now ↦ inr now ])
      had

  pub kept-same : (kept : List Twins) → (AreRare lexicon (letters lexicon t) → ⊥) → AreAll (λ y. Contains (take i pairs) y × AreRare lexicon (letters lexicon y)) kept
      → AreAll (λ y. Contains (take (i + 1) pairs) y × AreRare lexicon (letters lexicon y)) kept
  kept-same kept often had =
      all-same (λ y. Contains (take i pairs) y × AreRare lexicon (letters lexicon y)) (λ y. Contains (take (i + 1) pairs) y × AreRare lexicon (letters lexicon y)) kept
      (λ y x. (taken_old pairs i t within is y x.0, x.1))
      (λ y x. elim (taken_cases pairs i t within is y x.0) [
        | inl before ↦ (before, x.1)
        | inr now ↦ absurd (often (subst (λ u. AreRare lexicon (letters lexicon u)) (sym now) x.1))
      ])
      had

-- no more were counted than there are
pub counted-few : {S : Type 0} (lexicon : Lexicon) (pairs : List Twins) (i : ℕ) (counts : IndexMap (ℕ × ℕ) ℕ S) (pair : ℕ × ℕ) → AreCounted lexicon (Contains (take i pairs)) counts → count_of counts pair ≤ i
counted-few lexicon pairs i counts pair are =
    let many = are pair in
    omega (
      arith,
      many.2,
      length-take i pairs,
      few_in many.0 (take i pairs) many.1.once
          (All-weaker (λ (y : Twins). Contains (take i pairs) y × (letters lexicon y ≡ Some pair)) (Contains (take i pairs)) (λ y x. x.0) many.0 many.1.each),
    )

-- all of them
pub counted-whole : {S : Type 0} (lexicon : Lexicon) (pairs taken : List Twins) (counts : IndexMap (ℕ × ℕ) ℕ S) → taken ≡ pairs → AreAll (IsCandidate lexicon) pairs → AreCounted lexicon (Contains taken) counts → AreCounted lexicon (IsCandidate lexicon) counts
counted-whole lexicon pairs taken counts same all are pair =
    many-same (λ (y : Twins). Contains taken y × (letters lexicon y ≡ Some pair)) (λ (y : Twins). IsCandidate lexicon y × (letters lexicon y ≡ Some pair)) (count_of counts pair)
    (λ y x. (All-contains (IsCandidate lexicon) pairs y all.each (subst (λ l. Contains l y) same x.0), x.1))
    (λ y x. (subst (λ l. Contains l y) (sym same) (all.whole y x.0), x.1))
    (are pair)

pub kept-whole : (lexicon : Lexicon) (pairs taken kept : List Twins) → taken ≡ pairs → AreAll (IsCandidate lexicon) pairs → AreAll (λ y. Contains taken y × AreRare lexicon (letters lexicon y)) kept → AreAll (AreShown lexicon) kept
kept-whole lexicon pairs taken kept same all are =
    all-same (λ y. Contains taken y × AreRare lexicon (letters lexicon y)) (AreShown lexicon) kept
    (λ y x. (All-contains (IsCandidate lexicon) pairs y all.each (subst (λ l. Contains l y) same x.0), x.1))
    (λ y x. (subst (λ l. Contains l y) (sym same) (all.whole y x.0), x.1))
    are
