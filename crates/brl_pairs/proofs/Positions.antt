-- The position of a member of a list without repeats.
use Rattle.std.proofs.Common.{◌≡◌, ℕ, zero, suc, ◌<◌, inl, inr, Bool, true, false, not, true≢false, List, [], ◌∷◌, length, Option, Some, None, slice_get, position, IfSome, refl, sym, ◌∙◌, ap, subst, arith, get_or}
use Rattle.std.specs.List.{position_or_len, IsDistinct, list_any}
use Rattle.std.specs.Cmp.{IsEquivalence}
use Rattle.std.proofs.lemmas.Option.{slice_get-get_or, get_or_from_slice_get, slice_get_read, slice_get_within}
use Rattle.std.proofs.lemmas.List.Folds.{Any-from_list_any, list_any_at}
use Rattle.std.proofs.lemmas.List.Quantifiers.{position-Some}
use Rattle.std.proofs.lemmas.Map.Keys.{apart_from_distinct}
use Rattle.std.proofs.lemmas.Bool.Decides.{nat_tests}
use Rattle.std.proofs.lemmas.Bool.{not-false}
use Rattle.brl_pairs.specs.Members.{HaveOneNumber, IsMember}
use Rattle.brl_pairs.proofs.Lists.{three_ways}

first_at : {X : Type 0} (test : X → Bool) (xs : List X) (k : ℕ) (x : X) → slice_get xs k ≡ Some x → test x ≡ true → ((j : ℕ) (y : X) → j < k → slice_get xs j ≡ Some y → test y ≡ false) → position_or_len test xs ≡ k
first_at test [] k x at passes before = cc
first_at test (y ∷ xs) zero x at passes before =
    let same : y ≡ x = cc in
    let passed : test y ≡ true = ap test same ∙ passes in
    rw passed
first_at test (y ∷ xs) (suc k) x at passes before =
    let failed : test y ≡ false = before zero y (omega arith) refl in
    let rest : position_or_len test xs ≡ k = first_at test xs k x at passes (λ j z l h. before (suc j) z (omega arith) h) in
    rw failed (omega (arith, rest))

-- a member that passes a test, at the first place where one does
found_at : {X : Type 0} (test : X → Bool) (xs : List X) (k : ℕ) → position test xs ≡ Some k → (x : X) × (slice_get xs k ≡ Some x) × (test x ≡ true)
found_at test [] k e = cc
found_at test (y ∷ xs) k e =
    let at : (k < length (y ∷ xs)) × (test (get_or (y ∷ xs) k y) ≡ true) × ((j : ℕ) → j < k → test (get_or (y ∷ xs) j y) ≡ false) = position-Some test (y ∷ xs) k y e in
    (get_or (y ∷ xs) k y, slice_get-get_or (y ∷ xs) k y at.0, at.1)

module _ {X : Type 0} {eq : X → X → Bool} (laws : IsEquivalence eq) (same : (a b : X) → eq a b ≡ true → a ≡ b) (xs : List X) where
  places_apart : IsDistinct eq xs → (i j : ℕ) (v : X) → i < j → slice_get xs i ≡ Some v → slice_get xs j ≡ Some v → ⊥
  places_apart distinct i j v less i_at j_at =
      let x : get_or xs i v ≡ v = get_or_from_slice_get xs i v v i_at in
      let y : get_or xs j v ≡ v = get_or_from_slice_get xs j v v j_at in
      let apart : eq (get_or xs i v) (get_or xs j v) ≡ false = apart_from_distinct eq xs i j v distinct less (slice_get_within xs j v j_at) in
      let no : eq v v ≡ false = subst (λ (z : X). eq z v ≡ false) x (subst (λ (z : X). eq (get_or xs i v) z ≡ false) y apart) in
      true≢false (sym (laws.refl v) ∙ no)

  -- in a list without equal members no value has two numbers
  pub one_number : IsDistinct eq xs → HaveOneNumber xs
  one_number distinct i j v i_at j_at = elim (three_ways i j) [
    | inl less ↦ absurd (places_apart distinct i j v less i_at j_at)
    | inr more ↦ elim more [ inl e ↦ e | inr gt ↦ absurd (places_apart distinct j i v gt j_at i_at) ]
  ]

  -- the first place where a member equals the value is that of the value
  pub position_at : (v : X) → IsDistinct eq xs → (k : ℕ) → slice_get xs k ≡ Some v → position (eq v) xs ≡ Some k
  position_at v distinct k at =
      let within : k < length xs = slice_get_within xs k v at in
      let first : position_or_len (eq v) xs ≡ k = first_at (eq v) xs k v at (laws.refl v) (λ j y l h.
      let a : get_or xs j v ≡ y = get_or_from_slice_get xs j y v h in
      let b : get_or xs k v ≡ v = get_or_from_slice_get xs k v v at in
      let apart : eq (get_or xs j v) (get_or xs k v) ≡ false = apart_from_distinct eq xs j k v distinct l within in
      let apart' : eq y v ≡ false = subst (λ (z : X). eq z v ≡ false) a (subst (λ (z : X). eq (get_or xs j v) z ≡ false) b apart) in
      laws.symm v y ∙ apart') in
      rw first (let inside : k < length xs = within in grind (arith, nat_tests))

  -- the member at the first place where one equals the value is the value
  pub found : (v : X) (r : Option ℕ) → r ≡ position (eq v) xs → IfSome r (λ k. slice_get xs k ≡ Some v)
  found v None e = tt
  found v (Some k) e =
      let at : (x : X) × (slice_get xs k ≡ Some x) × (eq v x ≡ true) = found_at (eq v) xs k (sym e) in
      at.1 ∙ ap (λ (x : X). Some x) (sym (same v at.0 at.2))

  -- a value is a member exactly where some member equals it
  member_equal : (v : X) → IsMember xs v → list_any (eq v) xs ≡ true
  member_equal v (k, at) =
      let within : k < length xs = slice_get_within xs k v at in
      let read : get_or xs k v ≡ v = get_or_from_slice_get xs k v v at in
      list_any_at (eq v) xs k v within (rw read (laws.refl v))

  equal_member : (v : X) → list_any (eq v) xs ≡ true → IsMember xs v
  equal_member v any =
      let member = Any-from_list_any (eq v) xs any in
      let at : slice_get xs member.0 ≡ Some member.1 = slice_get_read xs (length xs) member.0 member.1 refl member.2 (sym member.3) in
      (member.0, at ∙ ap (λ (x : X). Some x) (sym (same v member.1 member.4)))

  -- where a value is added it is new, and else it is a member
  pub new : (v : X) (added : Bool) → added ≡ not (list_any (eq v) xs) → added ≡ true → IsMember xs v → ⊥
  new v added is was member = true≢false (sym was ∙ is ∙ ap not (member_equal v member))

  pub known : (v : X) (added : Bool) → added ≡ not (list_any (eq v) xs) → added ≡ false → IsMember xs v
  known v added is was = equal_member v (not-false (list_any (eq v) xs) (sym is ∙ was))
