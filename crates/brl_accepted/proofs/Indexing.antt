-- The index of rules by what they say.
use Rattle.std.proofs.Common.{◌≡◌, ◌∙◌, ◌++◌, ℕ, Bool, true, false, Bor, if◌then◌else◌, List, [], ◌∷◌, Option, Some, ap, append-nil, inl, inr, subst, sym}
use Rattle.std.specs.Cmp.Lexicographic.{bytes_decides, nat_list_eq_equiv}
use Rattle.std.specs.Global.{Vec}
use Rattle.std.specs.Map.{AreApart, IsKeyTest, KeepsOthers, lookup}
use Rattle.std.specs.Option.{option_map_or}
use Rattle.std.specs.Str.{bytes_eq}
use Rattle.std.proofs.lemmas.Bool.{cases_Bool, cond-false, cond-true}
use Rattle.indexmap.specs.IndexMap.{IndexMap, UpdatesBy}
use Rattle.brl_accepted.specs.Words.{numbers_of}

other_entries : {K X : Type 0} (eq : K → K → Bool) (test : K → Bool) (old new : List (K × X)) → KeepsOthers eq test old new → (other : K → Bool) → IsKeyTest eq other → AreApart test other → lookup other new ≡ lookup other old
unfolding KeepsOthers
other_entries eq test old new h = h

apart : (xs ys zs : List ℕ) → bytes_eq ys xs ≡ false → bytes_eq xs zs ≡ true → bytes_eq ys zs ≡ false
apart xs ys zs n y = nat_list_eq_equiv.symm ys zs ∙ sym (nat_list_eq_equiv.congr xs zs ys y) ∙ nat_list_eq_equiv.symm xs ys ∙ n

-- the test by which a text is looked up, and that by which keys are compared
abbrev is_key : List ℕ → Bor (List ℕ) → Bool
is_key text key = bytes_eq text key.now

abbrev are_keys : Bor (List ℕ) → Bor (List ℕ) → Bool
are_keys one other = bytes_eq one.now other.now

-- after a change at a text, an index has a number more for it
pub numbers_push : {S : Type 0} (text : List ℕ) (m n : IndexMap (Bor (List ℕ)) (Vec ℕ) S) (w : Vec ℕ) (number : ℕ)
    → UpdatesBy are_keys (is_key text) m n (Some w) → w.items ≡ numbers_of m text ++ number ∷ []
    → (other : List ℕ) → numbers_of n other ≡ numbers_of m other ++ (if bytes_eq other text then number ∷ [] else [])
numbers_push text m n w number updates items other =
    let items_of : Option (Vec ℕ) → List ℕ = λ found. option_map_or (λ (v : Vec ℕ). v.items) found [] in
    elim (cases_Bool (bytes_eq other text)) [
      | inl same ↦
          let e : text ≡ other = sym ((bytes_decides other text).0 same) in
          subst (λ l. numbers_of n l ≡ numbers_of m l ++ number ∷ []) e (ap items_of updates.1 ∙ items)
          ∙ ap (λ r. numbers_of m other ++ r) (sym (cond-true (bytes_eq other text) (number ∷ []) [] same))
      | inr not ↦
          ap items_of (other_entries are_keys (is_key text) m.entries n.entries updates.3 (is_key other)
          (λ x y. nat_list_eq_equiv.congr other x.now y.now) (λ k. apart text other k.now not))
          ∙ sym (append-nil (numbers_of m other))
          ∙ ap (λ r. numbers_of m other ++ r) (sym (cond-false (bytes_eq other text) (number ∷ []) [] not))
    ]
