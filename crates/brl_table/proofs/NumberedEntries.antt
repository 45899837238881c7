-- The numbered entries of distinct characters, with one more character or another info of one.
use Rattle.std.proofs.Common.{ℕ, suc, ◌+◌, ◌≡◌, Bool, true, false, ◌||◌, cond, List, [], ◌∷◌, length, fold, nat_eq, refl, arith, sym, ◌∙◌, ap, Option, Some, None, is_some, eqb-true}
use Rattle.std.specs.List.{list_any}
use Rattle.std.specs.Map.{lookup, set_value}
use Rattle.std.proofs.lemmas.Bool.{or_parts}
use Rattle.indexmap.specs.IndexMap.{insert_entry}
use Rattle.brl_rules.specs.declared.rule.Info.{Info}
use Rattle.brl_table.specs.Reading.{insert_new, with_numbers}
use Rattle.brl_rules.proofs.Facts.{nat_eq-sym}

-- ---- no character twice

abbrev pub IsSingle : List ℕ → Type 0
IsSingle [] = Unit {0}
IsSingle (x ∷ xs) = (list_any (λ y. nat_eq y x) xs ≡ false) × IsSingle xs

any-put-other : (z c : ℕ) (xs : List ℕ) → nat_eq c z ≡ false → list_any (λ y. nat_eq y z) xs ≡ false → list_any (λ y. nat_eq y z) (insert_new nat_eq xs c) ≡ false
any-put-other z c [] h k = rw h refl
any-put-other z c (x ∷ xs) h k = cases (nat_eq c x) (or_parts (nat_eq x z) (list_any (λ y. nat_eq y z) xs) k) (any-put-other z c xs h)
  where
    cases : (b : Bool) → (nat_eq x z ≡ false) × (list_any (λ y. nat_eq y z) xs ≡ false) → (list_any (λ y. nat_eq y z) xs ≡ false → list_any (λ y. nat_eq y z) (insert_new nat_eq xs c) ≡ false)
        → list_any (λ y. nat_eq y z) (cond b (x ∷ xs) (x ∷ insert_new nat_eq xs c)) ≡ false
    cases true p more = k
    cases false p more = rw (p.0, more p.1) refl

pub single-put : (xs : List ℕ) (c : ℕ) → IsSingle xs → IsSingle (insert_new nat_eq xs c)
single-put [] c h = (refl, tt)
single-put (x ∷ xs) c h = cases (nat_eq c x) refl (single-put xs c h.1)
  where
    cases : (b : Bool) → nat_eq c x ≡ b → IsSingle (insert_new nat_eq xs c) → IsSingle (cond b (x ∷ xs) (x ∷ insert_new nat_eq xs c))
    cases true e more = h
    cases false e more = (any-put-other x c xs e h.0, more)

pub single-fold : (cs xs : List ℕ) → IsSingle xs → IsSingle (fold (insert_new nat_eq) xs cs)
single-fold [] xs h = h
single-fold (c ∷ cs) xs h = single-fold cs (insert_new nat_eq xs c) (single-put xs c h)

-- ---- entries

module _ (f g : ℕ → ℕ → Info) (c : ℕ) (same : (n x : ℕ) → nat_eq x c ≡ false → g n x ≡ f n x) where
  pub numbered-same : (n : ℕ) (xs : List ℕ) → list_any (λ y. nat_eq y c) xs ≡ false → with_numbers f n xs ≡ with_numbers g n xs
  numbered-same n [] h = refl
  numbered-same n (x ∷ xs) h =
      let p = or_parts (nat_eq x c) (list_any (λ y. nat_eq y c) xs) h in
      let s = same n x p.0 in
      let m = numbered-same (n + 1) xs p.1 in
      cc (s, m)

  -- a character that has an entry: its info changes
  module _ (update : Info → Info) (at : (n : ℕ) → g n c ≡ update (f n c)) where
    pub numbered-old : (n : ℕ) (xs : List ℕ) (old : Info) → IsSingle xs → lookup (nat_eq c) (with_numbers f n xs) ≡ Some old
        → set_value (nat_eq c) (with_numbers f n xs) (update old) ≡ with_numbers g n xs
    numbered-old n [] old h k = cc
    numbered-old n (x ∷ xs) old h k = cases (nat_eq c x) refl k (numbered-old (n + 1) xs old h.1)
      where
        cases : (b : Bool) → nat_eq c x ≡ b → cond b (Some (f n x)) (lookup (nat_eq c) (with_numbers f (n + 1) xs)) ≡ Some old
            → (lookup (nat_eq c) (with_numbers f (n + 1) xs) ≡ Some old → set_value (nat_eq c) (with_numbers f (n + 1) xs) (update old) ≡ with_numbers g (n + 1) xs)
            → cond b ((x, update old) ∷ with_numbers f (n + 1) xs) ((x, f n x) ∷ set_value (nat_eq c) (with_numbers f (n + 1) xs) (update old))
            ≡ (x, g n x) ∷ with_numbers g (n + 1) xs
        cases true e j more =
            let q : c ≡ x = eqb-true c x e in
            let o : f n x ≡ old = cc (j) in
            let m : with_numbers f (n + 1) xs ≡ with_numbers g (n + 1) xs = numbered-same (n + 1) xs (rw q h.0) in
            let a : g n x ≡ update old = ap (g n) (sym q) ∙ at n ∙ ap (λ y. update (f n y)) q ∙ ap update o in
            cc (a, m)
        cases false e j more =
            let d = same n x (sym (nat_eq-sym c x) ∙ e) in
            let m = more j in
            cc (d, m)

  -- a character without an entry is added last
  pub numbered-new : (n : ℕ) (xs : List ℕ) → lookup (nat_eq c) (with_numbers f n xs) ≡ None
      → insert_entry nat_eq (with_numbers f n xs) c (g (n + length xs) c) ≡ with_numbers g n (insert_new nat_eq xs c)
  numbered-new n [] k = let e : n + 0 ≡ n = omega arith in ap (λ m. (c, g m c) ∷ []) e
  numbered-new n (x ∷ xs) k = cases (nat_eq c x) refl k (numbered-new (n + 1) xs)
    where
      cases : (b : Bool) → nat_eq c x ≡ b → cond b (Some (f n x)) (lookup (nat_eq c) (with_numbers f (n + 1) xs)) ≡ None
          → (lookup (nat_eq c) (with_numbers f (n + 1) xs) ≡ None → insert_entry nat_eq (with_numbers f (n + 1) xs) c (g (n + 1 + length xs) c) ≡ with_numbers g (n + 1) (insert_new nat_eq xs c))
          → cond b ((x, g (n + suc (length xs)) c) ∷ with_numbers f (n + 1) xs) ((x, f n x) ∷ insert_entry nat_eq (with_numbers f (n + 1) xs) c (g (n + suc (length xs)) c))
          ≡ with_numbers g n (cond b (x ∷ xs) (x ∷ insert_new nat_eq xs c))
      cases true e j more = cc
      cases false e j more =
          let d = same n x (sym (nat_eq-sym c x) ∙ e) in
          let p : n + suc (length xs) ≡ n + 1 + length xs = omega arith in
          let m = ap (λ k. insert_entry nat_eq (with_numbers f (n + 1) xs) c (g k c)) p ∙ more j in
          cc (d, m)

pub length-numbered : (f : ℕ → ℕ → Info) (n : ℕ) (xs : List ℕ) → length (with_numbers f n xs) ≡ length xs
length-numbered f n [] = refl
length-numbered f n (x ∷ xs) = ap suc (length-numbered f (n + 1) xs)

-- ---- which characters have an entry

pub is_there : {X : Type 0} → Option X → Bool
is_there None = false
is_there (Some x) = true

-- exactly the characters have an entry
pub found-numbered : (f : ℕ → ℕ → Info) (c n : ℕ) (xs : List ℕ) → is_there (lookup (nat_eq c) (with_numbers f n xs)) ≡ list_any (nat_eq c) xs
unfolding is_there
found-numbered f c n [] = refl
found-numbered f c n (x ∷ xs) = cases (nat_eq c x) (found-numbered f c (n + 1) xs)
  where
    cases : (b : Bool) → is_there (lookup (nat_eq c) (with_numbers f (n + 1) xs)) ≡ list_any (nat_eq c) xs
        → is_there (cond b (Some (f n x)) (lookup (nat_eq c) (with_numbers f (n + 1) xs))) ≡ b || list_any (nat_eq c) xs
    cases true more = refl
    cases false more = more

pub there : {X : Type 0} (o : Option X) (x : X) → o ≡ Some x → is_there o ≡ true
unfolding is_there
there o x h = ap is_there h

pub absent : {X : Type 0} (o : Option X) → o ≡ None → is_there o ≡ false
unfolding is_there
absent o h = ap is_there h

pub there-some : {X : Type 0} (o : Option X) → is_some o ≡ is_there o
unfolding is_there
there-some None = refl
there-some (Some x) = refl
