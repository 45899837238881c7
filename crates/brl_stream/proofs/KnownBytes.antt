-- Known bytes of readers and writers.
use Rattle.std.proofs.Common.{◌≡◌, ℕ, List, [], ◌++◌, Option, None, Some, sym, ap, ◌∙◌, append_assoc, append-nil, take, drop, length, ◌-◌, take-append-drop}
use Rattle.std.proofs.lemmas.List.{take_rest}
use Rattle.std.specs.Io.KnownBytes.{Appends}

pub Appends-nil : (a : Option (List ℕ)) → Appends a a []
Appends-nil None = tt
Appends-nil (Some x) = sym (append-nil x)

pub Appends-trans : (a b c : Option (List ℕ)) (bs cs : List ℕ) → Appends a b bs → Appends b c cs → Appends a c (bs ++ cs)
Appends-trans None b c bs cs p q = tt
Appends-trans (Some x) None c bs cs p q = absurd p
Appends-trans (Some x) (Some y) None bs cs p q = absurd q
Appends-trans (Some x) (Some y) (Some z) bs cs p q = q ∙ ap (λ l. l ++ cs) p ∙ append_assoc x bs cs

-- one more write of n bytes
pub put_more : (a b c : Option (List ℕ)) (bytes front rest : List ℕ) (n : ℕ) → bytes ≡ front ++ rest → Appends a b front → Appends b c (take n rest)
    → (x : List ℕ) × (bytes ≡ x ++ take (length rest - n) (drop n rest)) × Appends a c x
put_more a b c bytes front rest n e p q =
    let whole : take (length rest - n) (drop n rest) ≡ drop n rest = take_rest rest n in
    (front ++ take n rest, rw whole (e ∙ ap (λ l. front ++ l) (sym (take-append-drop n rest)) ∙ sym (append_assoc front (take n rest) (drop n rest))), Appends-trans a b c front (take n rest) p q)
