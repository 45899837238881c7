-- Lists of fields, one by one.
use Rattle.std.proofs.Common.{false, ◌≡◌, ℕ, zero, suc, ◌-◌, ◌≤◌, take, List, [], ◌∷◌, ◌++◌, map, length, get_or, drop, refl, sym, ap, subst, ◌∙◌, append_assoc, arith}
use Rattle.std.specs.Fmt.{digits}
use Rattle.std.specs.List.{join_with_byte, flat_map}
use Rattle.std.proofs.lemmas.List.{append-nil}
use Rattle.brl_cert.specs.Fields.{spelled_chars}

-- joined parts are the first, and then each with the mark before it
pub joined_marks : {A : Type 0} (f : A → List ℕ) (m : ℕ) (part : List ℕ) (xs : List A) → join_with_byte m (part ∷ map f xs) ≡ part ++ flat_map (λ x. m ∷ f x) xs
joined_marks f m part [] = sym (append-nil part)
joined_marks f m part (x ∷ xs) = ap (λ (bs : List ℕ). part ++ (m ∷ bs)) (joined_marks f m (f x) xs)

take_all : {A : Type 0} (n : ℕ) (xs : List A) → length xs ≤ n → take n xs ≡ xs
take_all zero [] le = refl
take_all (suc n) [] le = refl
take_all zero (x ∷ xs) le = absurd (omega arith)
take_all {A} (suc n) (x ∷ xs) le = ap (λ (ys : List A). x ∷ ys) (take_all n xs (omega arith))

pub chars_spelled : (cs : List ℕ) (first : ℕ) (old mid new : List ℕ) → 1 ≤ length cs → first ≡ get_or cs 0 first → mid ≡ old ++ digits 16 false first → new ≡ mid ++ flat_map (λ c. 46 ∷ digits 16 false c) (take (length cs - 1) (drop 1 cs)) → new ≡ old ++ spelled_chars cs
chars_spelled [] first old mid new some is e f = absurd (omega arith)
chars_spelled (c ∷ cs) first old mid new some is e f =
    let one : mid ≡ old ++ digits 16 false c = subst (λ (x : ℕ). mid ≡ old ++ digits 16 false x) is e in
    let rest : take (length (c ∷ cs) - 1) cs ≡ cs = take_all (length (c ∷ cs) - 1) cs (omega arith) in
    f ∙ ap (λ (ds : List ℕ). mid ++ flat_map (λ x. 46 ∷ digits 16 false x) ds) rest ∙ ap (λ (bs : List ℕ). bs ++ flat_map (λ x. 46 ∷ digits 16 false x) cs) one ∙ append_assoc old (digits 16 false c) (flat_map (λ x. 46 ∷ digits 16 false x) cs) ∙ ap (λ (bs : List ℕ). old ++ bs) (sym (joined_marks (digits 16 false) 46 (digits 16 false c) cs))
