-- A list whose members are read one by one.
use Rattle.std.proofs.Common.{◌≡◌, ℕ, zero, suc, ◌+◌, ◌<◌, List, [], ◌∷◌, ◌++◌, length, map, take, get_or, Option, Some, None, refl, ap, subst, ◌∙◌, arith}
use Rattle.std.proofs.lemmas.List.{take_more}
use Rattle.brl_cert.specs.Fields.{◌>>=◌, each}

module _ {A B C : Type 0} (f : B → Option C) (g : A → B) where
  each_push : (xs : List A) (ys : List C) (x : A) (y : C) → each f (map g xs) ≡ Some ys → f (g x) ≡ Some y → each f (map g (xs ++ x ∷ [])) ≡ Some (ys ++ y ∷ [])
  each_push [] ys x y e h = (let none : [] ≡ ys = cc in subst (λ (zs : List C). each f (map g ([] ++ x ∷ [])) ≡ Some (zs ++ y ∷ [])) none (rw h refl))
  each_push (w ∷ xs) ys x y e h = by_first (f (g w)) (each f (map g xs)) e (λ zs k. each_push xs zs x y k h)
    where
      by_rest : (v : C) (rest : Option (List C)) → (rest >>= λ zs. Some (v ∷ zs)) ≡ Some ys → ((zs : List C) → rest ≡ Some zs → each f (map g (xs ++ x ∷ [])) ≡ Some (zs ++ y ∷ [])) → (each f (map g (xs ++ x ∷ [])) >>= λ zs. Some (v ∷ zs)) ≡ Some (ys ++ y ∷ [])
      by_rest v (Some zs) e k = (let same : v ∷ zs ≡ ys = cc in rw (k zs refl) (ap (λ us. Some (us ++ y ∷ [])) same))
      by_rest v None e k = absurd cc

      by_first : (first : Option C) (rest : Option (List C)) → (first >>= λ v. rest >>= λ zs. Some (v ∷ zs)) ≡ Some ys → ((zs : List C) → rest ≡ Some zs → each f (map g (xs ++ x ∷ [])) ≡ Some (zs ++ y ∷ [])) → (first >>= λ v. each f (map g (xs ++ x ∷ [])) >>= λ zs. Some (v ∷ zs)) ≡ Some (ys ++ y ∷ [])
      by_first (Some v) rest e k = by_rest v rest e k
      by_first None rest e k = absurd cc

  pub each_more : (xs : List A) (i : ℕ) (d : A) (ys : List C) (y : C) → i < length xs → each f (map g (take i xs)) ≡ Some ys → f (g (get_or xs i d)) ≡ Some y → each f (map g (take (i + 1) xs)) ≡ Some (ys ++ y ∷ [])
  each_more xs i d ys y lt e h = ap (λ zs. each f (map g zs)) (take_more xs i d lt) ∙ each_push (take i xs) ys (get_or xs i d) y e h

  pub each_none : (xs : List A) (i : ℕ) (d : A) → i < length xs → f (g (get_or xs i d)) ≡ None → each f (map g xs) ≡ None
  each_none [] i d lt h = absurd (omega arith)
  each_none (w ∷ xs) zero d lt h = rw h refl
  each_none (w ∷ xs) (suc i) d lt h = by_first (f (g w)) (each_none xs i d (omega arith) h)
    where
      by_first : (first : Option C) → each f (map g xs) ≡ None → (first >>= λ v. each f (map g xs) >>= λ zs. Some (v ∷ zs)) ≡ None
      by_first (Some v) k = rw k refl
      by_first None k = refl
