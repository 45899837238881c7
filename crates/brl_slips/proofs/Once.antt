-- Lists that have all with a property, each once.
use Rattle.std.proofs.Common.{◌≡◌, ◌≢◌, ◌≤◌, ◌<◌, ◌+◌, ◌-◌, ◌++◌, ◌∷◌, ◌⊎◌, ℕ, suc, All, List, [], ap, subst, sym, ◌∙◌, arith, get_or, get_or-take, inl, inr, length, length-take, ltb, take}
use Rattle.std.specs.Prelude.{Decides}
use Rattle.std.specs.List.{AllPairs, Contains, remove}
use Rattle.std.proofs.lemmas.Bool.{cases_eq, cases_lt, lt-ltb, ltb-true}
use Rattle.std.proofs.lemmas.List.{get_or_default, length_push, take_all, take_more}
use Rattle.std.proofs.lemmas.List.Edits.{get_or-remove_above, get_or-remove_below, length-remove}
use Rattle.std.proofs.lemmas.List.Elements.{All-get_or, All-head, All-push, All-tail, All-weaker, Contains-append_left, Contains-push, Contains-push_cases}
use Rattle.std.proofs.lemmas.List.Quantifiers.{all_pairs_push}
use Rattle.brl_slips.specs.Pairing.{AreAll, AreAsMany}
use Rattle.brl_slips.specs.Twins.{AreFew}

module _ {X : Type 0} where
  -- the others stay where one is removed
  Contains-remove : (ys : List X) (k : ℕ) (x : X) → k < length ys → (get_or ys k x ≡ x → ⊥) → Contains ys x → Contains (remove ys k) x
  Contains-remove ys k x lt other has =
      let j = has.0 in
      let fewer = length-remove ys k lt in
      elim (cases_eq j k) [
        | inl same ↦ absurd (other (ap (λ n. get_or ys n x) (sym same) ∙ has.2))
        | inr apart ↦ elim (cases_lt j k) [
          | inl below ↦ (j, omega (arith, below, lt, fewer), get_or-remove_below ys k x j below lt ∙ has.2)
          | inr above ↦
              let up : (j - 1) + 1 ≡ j = omega (arith, above, apart) in
              (j - 1, omega (arith, has.1, fewer, above, apart), get_or-remove_above ys k x (j - 1) (omega (arith, above, apart)) lt ∙ (ap (λ n. get_or ys n x) up ∙ has.2))
        ]
      ]

  -- different elements of a list are no more than it has
  pub few_in : (xs ys : List X) → AllPairs (λ x y. x ≢ y) xs → All (Contains ys) xs → length xs ≤ length ys
  few_in [] ys once all = omega arith
  few_in (x ∷ xs) ys once all =
      let at : Contains ys x = All-head (Contains ys) x xs all in
      let left : All (Contains (remove ys at.0)) xs = λ k d lt.
      Contains-remove ys at.0 (get_or xs k d) at.1
      (λ same. once 0 (suc k) d (omega arith) (omega (arith, lt)) (sym at.2 ∙ (get_or_default ys at.0 x (get_or xs k d) at.1 ∙ same)))
      (All-tail (Contains ys) x xs all k d lt) in
      let rest = few_in xs (remove ys at.0) (λ i j d lt within. once (suc i) (suc j) d (omega (arith, lt)) (omega (arith, within))) left in
      omega (arith, rest, length-remove ys at.0 at.1)

  -- where all are fewer than four, so are any
  pub few-from_all : (Has : X → Type 0) (xs : List X) → AreAll Has xs → length xs < 4 → AreFew Has
  few-from_all Has xs are lt some once each = omega (arith, lt, few_in some xs once (All-weaker Has (Contains xs) are.whole some each))

  pub few-decided : (Has : X → Type 0) (n : ℕ) → AreAsMany Has n → Decides (ltb n 4) (AreFew Has)
  few-decided Has n many = (
    λ holds. few-from_all Has many.0 many.1 (omega (arith, many.2, ltb-true n 4 holds)),
    λ few. lt-ltb n 4 (omega (arith, many.2, few many.0 many.1.once many.1.each)),
  )

  -- the same property in other words
  pub all-same : (Has Other : X → Type 0) (xs : List X) → ((x : X) → Has x → Other x) → ((x : X) → Other x → Has x) → AreAll Has xs → AreAll Other xs
  all-same Has Other xs to back are = record {
    each = All-weaker Has Other to xs are.each;
    once = are.once;
    whole = λ x has. are.whole x (back x has);
  }

  -- one more
  pub all-push : (Has Other : X → Type 0) (xs : List X) (x : X) → (Has x → ⊥) → ((y : X) → Has y → Other y) → Other x → ((y : X) → Other y → Has y ⊎ (x ≡ y))
      → AreAll Has xs → AreAll Other (xs ++ x ∷ [])
  all-push Has Other xs x fresh to new back are = record {
    each = All-push Other xs x (All-weaker Has Other to xs are.each) new;
    once = all_pairs_push (λ a b. a ≢ b) xs x are.once (λ k d lt same. fresh (subst Has same (All-get_or Has xs k d lt are.each)));
    whole = λ y has. elim (back y has) [
      | inl old ↦ Contains-append_left xs (x ∷ []) y (are.whole y old)
      | inr same ↦ subst (Contains (xs ++ x ∷ [])) same (Contains-push xs x)
    ];
  }

  pub many-same : (Has Other : X → Type 0) (n : ℕ) → ((x : X) → Has x → Other x) → ((x : X) → Other x → Has x) → AreAsMany Has n → AreAsMany Other n
  many-same Has Other n to back many = (many.0, all-same Has Other many.0 to back many.1, many.2)

  pub many-push : (Has Other : X → Type 0) (n : ℕ) (x : X) → (Has x → ⊥) → ((y : X) → Has y → Other y) → Other x → ((y : X) → Other y → Has y ⊎ (x ≡ y))
      → AreAsMany Has n → AreAsMany Other (n + 1)
  many-push Has Other n x fresh to new back many =
      (many.0 ++ x ∷ [], all-push Has Other many.0 x fresh to new back many.1, omega (arith, length_push many.0 x, many.2))

  module _ (xs : List X) (i : ℕ) (x : X) (within : i < length xs) (is : get_or xs i x ≡ x) where
    -- an element isn't among those before it
    pub fresh_at : AllPairs (λ x y. x ≢ y) xs → Contains (take i xs) x → ⊥
    fresh_at once has =
        let k = has.0 in
        let below : k < i = omega (arith, has.1, length-take i xs) in
        once k i x below within (sym (get_or-take i xs k x below) ∙ (has.2 ∙ sym is))

    next : take (i + 1) xs ≡ take i xs ++ x ∷ []
    next = take_more xs i x within ∙ ap (λ y. take i xs ++ y ∷ []) is

    -- it is among those up to it, as those before it are
    pub taken_new : Contains (take (i + 1) xs) x
    taken_new = subst (λ l. Contains l x) (sym next) (Contains-push (take i xs) x)

    pub taken_old : (y : X) → Contains (take i xs) y → Contains (take (i + 1) xs) y
    taken_old y has = subst (λ l. Contains l y) (sym next) (Contains-append_left (take i xs) (x ∷ []) y has)

    pub taken_cases : (y : X) → Contains (take (i + 1) xs) y → Contains (take i xs) y ⊎ (x ≡ y)
    taken_cases y has = Contains-push_cases (take i xs) x y (subst (λ l. Contains l y) next has)

  pub all_taken : (xs : List X) (i : ℕ) → length xs ≤ i → take i xs ≡ xs
  all_taken xs i past = take_all i xs past
