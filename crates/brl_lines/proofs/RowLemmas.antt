-- How the rows of what is left of a text are cut.
use Rattle.std.proofs.Common.{◌≡◌, ◌≢◌, ℕ, zero, suc, ◌+◌, ◌-◌, ◌<◌, ◌≤◌, Bool, true, false, ◌&&◌, nat_eq, List, [], ◌∷◌, ◌++◌, length, get_or, take, drop, refl, ap, sym, ◌∙◌, arith, cond, append-nil, length-take, length-drop, inl, inr, Some}
use Rattle.std.proofs.lemmas.Bool.{eqb-true, eq-eqb}
use Rattle.std.proofs.lemmas.Bool.Decides.{eqb_tells}
use Rattle.std.proofs.lemmas.Bool.Decides.{nat_tests}
use Rattle.std.proofs.lemmas.List.FromFn.{length-enumerate_from}
use Rattle.std.specs.List.{position_from}
use Rattle.brl_lines.specs.Lines.{is_long, most_row_bytes}
use Rattle.brl_lines.specs.Rows.{piece, onto, rows, feed_is_next}
use Rattle.brl_lines.proofs.PieceLemmas.{piece_none, piece_step, piece_parts}

-- the row up to m goes before what the row from m begins with
pub row_grow : (text : List ℕ) (k i m : ℕ) (x : List (ℕ × ℕ)) (others : List (List (ℕ × ℕ))) → m ≡ i + k → m < length text
    → rows (piece text m (length text)) ≡ x ∷ others
    → ((n : ℕ) → i ≤ n → n < m → (nat_eq (get_or text n 0) 10 ≡ false) × ((nat_eq (get_or text n 0) 13 && nat_eq (get_or text (n + 1) 0) 10) ≡ false))
    → rows (piece text i (length text)) ≡ (piece text i m ++ x) ∷ others
row_grow text zero i m x others e h base plain =
    let same : m ≡ i = omega arith in
    rw (← same, base, piece_none text m) refl
row_grow text (suc k) i m x others e h base plain =
    let here : i < m = omega arith in
    let less : i < length text = omega arith in
    let more : i + 1 < length text = omega arith in
    let whole : length text ≤ length text = omega arith in
    let inside : m ≤ length text = omega arith in
    let next : m ≡ (i + 1) + k = omega arith in
    let this = plain i (omega arith) here in
    let not_feed = this.0 in
    let not_end : (nat_eq (get_or text i 0) 13 && feed_is_next (piece text (i + 1) (length text))) ≡ false =
    rw (piece_step text (i + 1) (length text) more whole) this.1 in
    let after = row_grow text k (i + 1) m x others next h base (λ n a b. plain n (omega arith) b) in
    rw (piece_step text i (length text) less whole, piece_step text i m here inside, not_feed, not_end, after) refl

-- a line feed ends a row
pub row_feed : (text : List ℕ) (m : ℕ) → m < length text → nat_eq (get_or text m 0) 10 ≡ true → rows (piece text m (length text)) ≡ [] ∷ rows (piece text (m + 1) (length text))
row_feed text m h e = let whole : length text ≤ length text = omega arith in rw (piece_step text m (length text) h whole, e) refl

-- so does a carriage return with a line feed
pub row_return_feed : (text : List ℕ) (m : ℕ) → m + 1 < length text → nat_eq (get_or text m 0) 10 ≡ false → nat_eq (get_or text m 0) 13 ≡ true → nat_eq (get_or text (m + 1) 0) 10 ≡ true
    → rows (piece text m (length text)) ≡ [] ∷ rows (piece text (m + 2) (length text))
row_return_feed text m h n r e =
    let whole : length text ≤ length text = omega arith in
    let less : m < length text = omega arith in
    let both : (nat_eq (get_or text m 0) 13 && feed_is_next (piece text (m + 1) (length text))) ≡ true =
    rw (piece_step text (m + 1) (length text) h whole, r) e in
    let two : (m + 1) + 1 ≡ m + 2 = omega arith in
    let after = row_feed text (m + 1) h e in
    rw (piece_step text m (length text) less whole, n, both, after, two) refl

-- the last byte is no line feed: the row has it
pub row_end : (text : List ℕ) (m : ℕ) → m + 1 ≡ length text → nat_eq (get_or text m 0) 10 ≡ false → rows (piece text m (length text)) ≡ piece text m (length text) ∷ []
row_end text m h n =
    let whole : length text ≤ length text = omega arith in
    let less : m < length text = omega arith in
    let none : piece text (m + 1) (length text) ≡ [] = rw h (piece_none text (length text)) in
    let step = piece_step text m (length text) less whole in
    rw (step, none, n) (and_false (nat_eq (get_or text m 0) 13))
  where
    and_false : (b : Bool) → cond (b && false) (rows []) (onto (m, get_or text m 0) (rows [])) ≡ ((m, get_or text m 0) ∷ []) ∷ []
    and_false true = refl
    and_false false = refl

-- ---- what the code does

pub not_equal : (a b : ℕ) → a ≢ b → nat_eq a b ≡ false
not_equal a b ne = elim (eqb_tells a b) [ inl h ↦ absurd (ne h.1) | inr h ↦ h.0 ]

pair_false : (x y : Bool) → (x ≡ true → y ≡ false) → (x && y) ≡ false
pair_false true y h = h refl
pair_false false y h = refl

-- the row from i up to m has no feed and ends in no return
module _ (text : List ℕ) (i m : ℕ) (before : (n : ℕ) → i ≤ n → n < m → get_or text n 0 ≢ 10) (plain : i < m → get_or text (m - 1) 0 ≡ 13 → get_or text m 0 ≢ 10) where
  next_plain : (n : ℕ) → i ≤ n → n < m → nat_eq (get_or text n 0) 13 ≡ true → get_or text (n + 1) 0 ≡ 10 → n ≢ m - 1
  next_plain n low high r next e =
      let last : n + 1 ≡ m = omega arith in
      plain (omega arith) (rw (← e) (eqb-true _ _ r)) (rw (← last) next)

  next_not_feed : (n : ℕ) → i ≤ n → n < m → nat_eq (get_or text n 0) 13 ≡ true → get_or text (n + 1) 0 ≢ 10
  next_not_feed n low high r next =
      let apart = next_plain n low high r next in
      before (n + 1) (omega arith) (omega arith) next

  pub plain_row : (n : ℕ) → i ≤ n → n < m → (nat_eq (get_or text n 0) 10 ≡ false) × ((nat_eq (get_or text n 0) 13 && nat_eq (get_or text (n + 1) 0) 10) ≡ false)
  plain_row n low high = (not_equal _ _ (before n low high), pair_false _ _ (λ r. not_equal _ _ (next_not_feed n low high r)))

-- a row that a feed ends, with no return before it
pub cut_at_feed : (text : List ℕ) (i m : ℕ) → i ≤ m → m < length text → ((n : ℕ) → i ≤ n → n < m → get_or text n 0 ≢ 10) → get_or text m 0 ≡ 10
    → (i < m → get_or text (m - 1) 0 ≢ 13) → rows (piece text i (length text)) ≡ piece text i m ∷ rows (piece text (m + 1) (length text))
cut_at_feed text i m a b before feed plain =
    row_grow text (m - i) i m [] (rows (piece text (m + 1) (length text))) (omega arith) b (row_feed text m b (eq-eqb _ _ feed))
    (plain_row text i m before (λ h e _. plain h e))
    ∙ ap (λ x. x ∷ rows (piece text (m + 1) (length text))) (append-nil (piece text i m))

-- a row that a return and a feed end
pub cut_at_return : (text : List ℕ) (i m : ℕ) → i ≤ m → m + 1 < length text → ((n : ℕ) → i ≤ n → n < m + 1 → get_or text n 0 ≢ 10) → get_or text m 0 ≡ 13 → get_or text (m + 1) 0 ≡ 10
    → rows (piece text i (length text)) ≡ piece text i m ∷ rows (piece text (m + 2) (length text))
cut_at_return text i m a b before return feed =
    row_grow text (m - i) i m [] (rows (piece text (m + 2) (length text))) (omega arith) (omega arith)
    (row_return_feed text m b (not_equal _ _ (before m a (omega arith))) (eq-eqb _ _ return) (eq-eqb _ _ feed))
    (plain_row text i m (λ n low high. before n low (omega arith)) (λ _ _. before m a (omega arith)))
    ∙ ap (λ x. x ∷ rows (piece text (m + 2) (length text))) (append-nil (piece text i m))

-- the last row, which no feed ends
pub cut_at_end : (text : List ℕ) (i m : ℕ) → i ≤ m → m + 1 ≡ length text → ((n : ℕ) → i ≤ n → n < m + 1 → get_or text n 0 ≢ 10)
    → rows (piece text i (length text)) ≡ piece text i (length text) ∷ []
cut_at_end text i m a b before =
    row_grow text (m - i) i m (piece text m (length text)) [] (omega arith) (omega arith) (row_end text m b (not_equal _ _ (before m a (omega arith))))
    (plain_row text i m (λ n low high. before n low (omega arith)) (λ _ _. before m a (omega arith)))
    ∙ ap (λ x. x ∷ []) (sym (piece_parts text (m - i) i m (length text) (omega arith) (omega arith) (omega arith)))

-- ---- long rows

length-piece : (text : List ℕ) (i j : ℕ) → i ≤ j → j ≤ length text → length (piece text i j) ≡ j - i
length-piece text i j h l = length-enumerate_from i (take (j - i) (drop i text)) ∙ simp (length-take, length-drop) (omega arith)

module _ (text : List ℕ) (number i m next : ℕ) (range : i ≤ m) (within : m ≤ length text) (cut : rows (piece text i (length text)) ≡ piece text i m ∷ rows (piece text next (length text))) where
  -- the row is too long
  pub first_long : most_row_bytes < m - i → position_from is_long number (rows (piece text i (length text))) ≡ Some number
  first_long h =
      let long : is_long (piece text i m) ≡ true = rw (length-piece text i m range within) (grind (arith, nat_tests)) in
      rw (cut, long) refl

  -- the row isn't too long
  pub none_long : m - i ≤ most_row_bytes → position_from is_long number (rows (piece text i (length text))) ≡ position_from is_long (number + 1) (rows (piece text next (length text)))
  none_long h =
      let short : is_long (piece text i m) ≡ false = rw (length-piece text i m range within) (grind (arith, nat_tests)) in
      rw (cut, short) refl
