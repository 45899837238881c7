-- Bytes that are written piece by piece.
use Rattle.std.proofs.Common.{◌≡◌, false, ℕ, ◌+◌, ◌<◌, ◌≤◌, All, List, [], ◌∷◌, ◌++◌, length, map, take, get_or, refl, sym, ap, subst, ◌∙◌, arith}
use Rattle.std.specs.Fmt.{digits}
use Rattle.std.specs.List.{flat_map, join_with_byte}
use Rattle.std.proofs.lemmas.List.{flat_map_more, take_more}
use Rattle.std.proofs.lemmas.List.Elements.{All-push}
use Rattle.brl_cert.specs.Fields.{spelled_chars}

taken : {X : Type 0} (xs : List X) (i : ℕ) (x : X) → i < length xs → x ≡ get_or xs i x → take (i + 1) xs ≡ take i xs ++ x ∷ []
taken xs i x lt is = take_more xs i x lt ∙ ap (λ y. take i xs ++ y ∷ []) (sym is)

-- one more of a list is written
pub one_more : {X : Type 0} (f : X → List ℕ) (old : List ℕ) (xs : List X) (i : ℕ) (x : X) (out new : List ℕ) → i < length xs → x ≡ get_or xs i x → out ≡ old ++ flat_map f (take i xs) → new ≡ out ++ f x → new ≡ old ++ flat_map f (take (i + 1) xs)
one_more f old xs i x out new lt is before now =
    now ∙ ap (λ bytes. bytes ++ f x) before ∙ flat_map_more f old (take i xs) x ∙ ap (λ ys. old ++ flat_map f ys) (sym (taken xs i x lt is))

pub all_more : {X : Type 0} (P : X → Type 0) (xs : List X) (i : ℕ) (x : X) → i < length xs → x ≡ get_or xs i x → All P (take i xs) → P x → All P (take (i + 1) xs)
all_more {X} P xs i x lt is before now = subst (λ (ys : List X). All P ys) (sym (taken xs i x lt is)) (All-push P (take i xs) x before now)

-- some characters are spelled joined by points
pub some_joined : (chars : List ℕ) → 1 ≤ length chars → spelled_chars chars ≡ join_with_byte 46 (map (digits 16 false) chars)
some_joined [] h = absurd (omega (arith, h))
some_joined (c ∷ chars) h = refl
