-- One more element of a list that is gone through, and tests of bytes.
use Rattle.std.proofs.Common.{◌≡◌, ◌≢◌, ◌∙◌, ◌<◌, ◌+◌, ◌++◌, ◌||◌, ℕ, Bool, true, false, List, [], ◌∷◌, ap, append-nil, append_assoc, get_or, length, map, refl, sym, take}
use Rattle.std.specs.List.{filter, flat_map}
use Rattle.std.specs.Str.{bytes_eq}
use Rattle.std.proofs.lemmas.Bool.Decides.{Decides-eqb}
use Rattle.std.proofs.lemmas.List.{map-append, take_more}
use Rattle.std.proofs.lemmas.List.Sums.{fold-append}
use Rattle.std.proofs.lemmas.List.Concat.{flat_map-append}
use Rattle.std.proofs.lemmas.List.Elements.{filter-append}
use Rattle.std.proofs.lemmas.Slice.Eq.{bytes_eq-Decides}
use Rattle.brl_accepted.specs.Counting.{each_once, lesser_first, with_pair}

-- what belongs to one more element of a list, after what belongs to the others
pub flat_map_push : {X Y : Type 0} (f : X → List Y) (xs : List X) (x : X) → flat_map f (xs ++ x ∷ []) ≡ flat_map f xs ++ f x
flat_map_push {X} {Y} f xs x = flat_map-append f xs (x ∷ []) ∙ ap (λ (rest : List Y). flat_map f xs ++ rest) (append-nil (f x))

-- what belongs to the next element of a list, after what belongs to those before it
pub one_more : {X Y : Type 0} (f : X → List Y) (xs : List X) (i : ℕ) (d : X) (front now after : List Y) → i < length xs → now ≡ front ++ flat_map f (take i xs) → after ≡ now ++ f (get_or xs i d)
    → after ≡ front ++ flat_map f (take (i + 1) xs)
one_more {X} {Y} f xs i d front now after within is added =
    let x = get_or xs i d in
    let more : flat_map f (take (i + 1) xs) ≡ flat_map f (take i xs) ++ f x = ap (flat_map f) (take_more xs i d within) ∙ flat_map_push f (take i xs) x in
    added ∙ ap (λ (ys : List Y). ys ++ f x) is ∙ append_assoc front (flat_map f (take i xs)) (f x) ∙ ap (λ (ys : List Y). front ++ ys) (sym more)

-- what passes of the elements up to the next one, after what passes of those before it
pub one_more_kept : {X : Type 0} (p : X → Bool) (xs : List X) (i : ℕ) (d : X) (now after : List X) → i < length xs → now ≡ filter p (take i xs) → after ≡ now ++ filter p (get_or xs i d ∷ [])
    → after ≡ filter p (take (i + 1) xs)
one_more_kept {X} p xs i d now after within is added =
    added
    ∙ ap (λ (ys : List X). ys ++ filter p (get_or xs i d ∷ [])) is
    ∙ sym (ap (filter p) (take_more xs i d within) ∙ filter-append p (take i xs) (get_or xs i d ∷ []))

-- one more pair, each once
pub one_more_pair : (pairs : List (ℕ × ℕ)) (i : ℕ) (d : ℕ × ℕ) (old new : List (ℕ × ℕ)) → i < length pairs → old ≡ each_once (map lesser_first (take i pairs))
    → new ≡ with_pair old (lesser_first (get_or pairs i d)) → new ≡ each_once (map lesser_first (take (i + 1) pairs))
one_more_pair pairs i d old new within old_is new_is =
    let pair = lesser_first (get_or pairs i d) in
    let front = map lesser_first (take i pairs) in
    let more : map lesser_first (take (i + 1) pairs) ≡ front ++ pair ∷ [] = ap (map lesser_first) (take_more pairs i d within) ∙ map-append lesser_first (take i pairs) (get_or pairs i d ∷ []) in
    new_is ∙ ap (λ (seen : List (ℕ × ℕ)). with_pair seen pair) old_is ∙ sym (fold-append with_pair [] front (pair ∷ [])) ∙ ap each_once (sym more)

-- ---- Bytes

-- what isn't true is false
not_true : (b : Bool) → (b ≡ true → ⊥) → b ≡ false
not_true true h = absurd (h refl)
not_true false h = refl

-- different bytes
pub unequal : (xs ys : List ℕ) → xs ≢ ys → bytes_eq xs ys ≡ false
unequal xs ys differ = not_true (bytes_eq xs ys) (λ same. differ ((bytes_eq-Decides xs ys).0 same))

-- bytes with the same front
pub same_front : (front xs ys : List ℕ) → bytes_eq (front ++ xs) (front ++ ys) ≡ bytes_eq xs ys
same_front [] xs ys = refl
same_front (b ∷ front) xs ys = rw ((Decides-eqb b b).1 refl) (same_front front xs ys)
