-- The elements that a test keeps, and their places.
use Rattle.std.proofs.Common.{◌≡◌, ℕ, zero, suc, ◌<◌, Bool, true, false, cond, List, [], ◌∷◌, Some, slice_get, refl, sym, ◌∙◌, ap, arith}
use Rattle.std.specs.List.{filter}

module _ {X : Type 0} where
  -- an element at some place of a list passes a test
  abbrev Passes : (X → Bool) → List X → X → Type 0
  Passes test xs x = (place : ℕ) × (slice_get xs place ≡ Some x) × (test x ≡ true)

  -- two places of a list, one before the other, have these elements
  pub record InTurn (xs : List X) (x y : X) : Type 0 where
    pub first : ℕ
    pub second : ℕ
    pub less : first < second
    pub first_at : slice_get xs first ≡ Some x
    pub second_at : slice_get xs second ≡ Some y

  module _ (test : X → Bool) where
    passes_later : (y : X) (xs : List X) (x : X) → Passes test xs x → Passes test (y ∷ xs) x
    passes_later y xs x r = (suc r.0, r.1, r.2)

    kept_by : (y : X) (xs kept : List X) (x : X) → ((k : ℕ) → slice_get kept k ≡ Some x → Passes test xs x)
        → (b : Bool) → test y ≡ b → (k : ℕ) → slice_get (cond b (y ∷ kept) kept) k ≡ Some x → Passes test (y ∷ xs) x
    kept_by y xs kept x rest true is zero at = (zero, at, (let same : y ≡ x = cc in sym (ap test same) ∙ is))
    kept_by y xs kept x rest true is (suc k) at = passes_later y xs x (rest k at)
    kept_by y xs kept x rest false is k at = passes_later y xs x (rest k at)

    -- an element that is kept is an element that passes
    pub kept_passes : (xs : List X) (x : X) (k : ℕ) → slice_get (filter test xs) k ≡ Some x → Passes test xs x
    kept_passes [] x k at = absurd cc
    kept_passes (y ∷ xs) x k at = kept_by y xs (filter test xs) x (kept_passes xs x) (test y) refl k at

    still_kept : (y : X) (kept : List X) (x : X) → (place : ℕ) × (slice_get kept place ≡ Some x)
        → (b : Bool) → (place : ℕ) × (slice_get (cond b (y ∷ kept) kept) place ≡ Some x)
    still_kept y kept x r true = (suc r.0, r.1)
    still_kept y kept x r false = r

    -- an element that passes is kept
    pub passes_kept : (xs : List X) (x : X) (k : ℕ) → slice_get xs k ≡ Some x → test x ≡ true → (place : ℕ) × (slice_get (filter test xs) place ≡ Some x)
    passes_kept [] x k at pass = absurd cc
    passes_kept (y ∷ xs) x zero at pass =
        let same : x ≡ y = cc in
        let passed : test y ≡ true = sym (ap test same) ∙ pass in
        (zero, rw passed at)
    passes_kept (y ∷ xs) x (suc k) at pass = still_kept y (filter test xs) x (passes_kept xs x k at pass) (test y)

    turn_later : (z : X) (xs : List X) (x y : X) → InTurn xs x y → InTurn (z ∷ xs) x y
    turn_later z xs x y r = record { first = suc r.first; second = suc r.second; less = omega (arith, r.less); first_at = r.first_at; second_at = r.second_at }

    turn_by : (z : X) (xs kept : List X) (x y : X) → ((k : ℕ) → slice_get kept k ≡ Some y → Passes test xs y)
        → ((i j : ℕ) → i < j → slice_get kept i ≡ Some x → slice_get kept j ≡ Some y → InTurn xs x y)
        → (b : Bool) (i j : ℕ) → i < j → slice_get (cond b (z ∷ kept) kept) i ≡ Some x → slice_get (cond b (z ∷ kept) kept) j ≡ Some y → InTurn (z ∷ xs) x y
    turn_by z xs kept x y passes rest true i zero less i_at j_at = absurd (omega arith)
    turn_by z xs kept x y passes rest true zero (suc j) less i_at j_at =
        let r = passes j j_at in
        record { first = zero; second = suc r.0; less = omega arith; first_at = i_at; second_at = r.1 }
    turn_by z xs kept x y passes rest true (suc i) (suc j) less i_at j_at = turn_later z xs x y (rest i j (omega arith) i_at j_at)
    turn_by z xs kept x y passes rest false i j less i_at j_at = turn_later z xs x y (rest i j less i_at j_at)

    -- elements that are kept keep their order
    pub kept_in_turn : (xs : List X) (x y : X) (i j : ℕ) → i < j → slice_get (filter test xs) i ≡ Some x → slice_get (filter test xs) j ≡ Some y → InTurn xs x y
    kept_in_turn [] x y i j less i_at j_at = absurd cc
    kept_in_turn (z ∷ xs) x y i j less i_at j_at =
        turn_by z xs (filter test xs) x y (kept_passes xs y) (kept_in_turn xs x y) (test z) i j less i_at j_at
