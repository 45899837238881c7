-- Where the rows and the tokens of a text are in it.
use Rattle.std.proofs.Common.{◌≡◌, ℕ, zero, suc, ◌+◌, ◌-◌, ◌<◌, ◌≤◌, Bool, true, false, cond, List, [], ◌∷◌, length, get_or, take, drop, map, refl, ap, sym, ◌∙◌, subst, arith, add-one, drop-cons, lit<, length-drop, All}
use Rattle.std.proofs.lemmas.List.{length-map}
use Rattle.std.specs.List.{AllByRecursion, enumerate_from}
use Rattle.brl_lines.specs.Rows.{onto, piece}
use Rattle.brl_lines.specs.Slices.{IsSlice, IsCutFrom, BeginsAfter, AreInOrder, IsInOrder}
use Rattle.brl_lines.specs.Tokens.{TokenView, LineView, token_of, tokens, is_gap, gap_is_next, is_comment, line_of}

module _ (text : List ℕ) where
  -- these are the bytes of the text from place i on
  abbrev pub AreBytesAt : ℕ → List (ℕ × ℕ) → Type 0
  AreBytesAt i [] = Unit {0}
  AreBytesAt i (b ∷ bs) = (b.0 ≡ i) × (i < length text) × (get_or text i 0 ≡ b.1) × AreBytesAt (i + 1) bs

  -- the tokens have bytes, are in the text from i on, and each begins after the end of the one
  -- before it
  abbrev pub AreTokensFrom : ℕ → List (List (ℕ × ℕ)) → Type 0
  AreTokensFrom i [] = Unit {0}
  AreTokensFrom i (t ∷ ts) = (j : ℕ) × (i ≤ j) × AreBytesAt j t × (0 < length t) × AreTokensFrom (j + length t + 1) ts

  -- the first of them is at i
  abbrev StartAt : ℕ → List (List (ℕ × ℕ)) → Type 0
  StartAt i [] = ⊥
  StartAt i (t ∷ ts) = AreBytesAt i t × (0 < length t) × AreTokensFrom (i + length t + 1) ts

  from_first : (i : ℕ) (ts : List (List (ℕ × ℕ))) → StartAt i ts → AreTokensFrom i ts
  from_first i [] h = tt
  from_first i (t ∷ ts) h = (i, omega arith, h.0, h.1, h.2)

  from_further : (i : ℕ) (ts : List (List (ℕ × ℕ))) → AreTokensFrom (i + 1) ts → AreTokensFrom i ts
  from_further i [] h = tt
  from_further i (t ∷ ts) h = (h.0, omega (arith, h.1), h.2, h.3, h.4)

  onto_first : (i : ℕ) (b : ℕ × ℕ) (ts : List (List (ℕ × ℕ))) → b.0 ≡ i → i < length text → get_or text i 0 ≡ b.1 → StartAt (i + 1) ts → StartAt i (onto b ts)
  onto_first i b [] p l e h = absurd h
  onto_first i b (t ∷ ts) p l e h =
      let same : (i + 1) + length t + 1 ≡ i + length (b ∷ t) + 1 = omega arith in
      ((p, l, e, h.0), omega arith, subst (λ n. AreTokensFrom n ts) same h.2)

  -- what is shown of the tokens of bs, from i on
  abbrev Shown : ℕ → List (ℕ × ℕ) → Bool → List (List (ℕ × ℕ)) → Type 0
  Shown i bs gap ts = AreTokensFrom i ts × (gap ≡ true → AreTokensFrom (i + 1) ts) × (gap ≡ false → StartAt i ts)

  shown_cases : (i : ℕ) (b : ℕ × ℕ) (bs : List (ℕ × ℕ)) (gap next : Bool) → b.0 ≡ i → i < length text → get_or text i 0 ≡ b.1 → Shown (i + 1) bs next (tokens bs)
      → Shown i (b ∷ bs) gap (cond gap (tokens bs) (cond next ((b ∷ []) ∷ tokens bs) (onto b (tokens bs))))
  shown_cases i b bs true next p l e h = (from_further i (tokens bs) h.0, λ _. h.0, λ no. cc)
  shown_cases i b bs false true p l e h =
      let first : StartAt i ((b ∷ []) ∷ tokens bs) = ((p, l, e, tt), lit< tt, h.1 refl) in
      (from_first i ((b ∷ []) ∷ tokens bs) first, λ no. cc, λ _. first)
  shown_cases i b bs false false p l e h =
      let first = onto_first i b (tokens bs) p l e (h.2 refl) in
      (from_first i (onto b (tokens bs)) first, λ no. cc, λ _. first)

  shown : (i : ℕ) (bs : List (ℕ × ℕ)) → AreBytesAt i bs → Shown i bs (gap_is_next bs) (tokens bs)
  shown i [] h = (tt, λ _. tt, λ no. cc)
  shown i (b ∷ bs) h = shown_cases i b bs (is_gap b.1) (gap_is_next bs) h.0 h.1 h.2 (shown (i + 1) bs h.3)

  -- the tokens of a row are in order
  pub tokens_from : (i : ℕ) (bs : List (ℕ × ℕ)) → AreBytesAt i bs → AreTokensFrom i (tokens bs)
  tokens_from i bs h = (shown i bs h).0

  bytes_at : (i : ℕ) (bs : List (ℕ × ℕ)) → AreBytesAt i bs → take (length (map (λ c. c.1) bs)) (drop i text) ≡ map (λ c. c.1) bs
  bytes_at i [] h = refl
  bytes_at i (b ∷ bs) h =
      let inside = h.1 in
      rw (drop-cons text i 0, ← add-one, h.2, bytes_at (i + 1) bs h.3) refl

  slice_of : (i : ℕ) (t : List (ℕ × ℕ)) → AreBytesAt i t → 0 < length t → IsSlice text (token_of t)
  slice_of i [] h l = absurd (omega arith)
  slice_of i (b ∷ bs) h l = let start = h.0 in rw start (bytes_at i (b ∷ bs) h)

  -- a token's start and end
  start_of : (i : ℕ) (t : List (ℕ × ℕ)) → AreBytesAt i t → 0 < length t → (token_of t).start ≡ i
  start_of i [] h l = absurd (omega arith)
  start_of i (b ∷ bs) h l = h.0

  length-token : (t : List (ℕ × ℕ)) → length (token_of t).text ≡ length t
  length-token [] = refl
  length-token (b ∷ bs) = ap suc (length-map bs (λ c. c.1))

  pub slices : (i : ℕ) (ts : List (List (ℕ × ℕ))) → AreTokensFrom i ts → AllByRecursion (IsSlice text) (map token_of ts)
  slices i [] h = tt
  slices i (t ∷ ts) h = (slice_of h.0 t h.2 h.3, slices (h.0 + length t + 1) ts h.4)

  begins_after : (i : ℕ) (ts : List (List (ℕ × ℕ))) → AreTokensFrom (i + 1) ts → BeginsAfter i (map token_of ts)
  begins_after i [] h = tt
  begins_after i (t ∷ ts) h = let start = start_of h.0 t h.2 h.3 in omega (arith, h.1, start)

  pub in_order : (i : ℕ) (ts : List (List (ℕ × ℕ))) → AreTokensFrom i ts → AreInOrder (map token_of ts)
  in_order i [] h = tt
  in_order i (t ∷ ts) h =
      let start = start_of h.0 t h.2 h.3 in
      let end : h.0 + length t ≡ (token_of t).start + length (token_of t).text = omega (arith, start, length-token t) in
      (subst (λ n. BeginsAfter n (map token_of ts)) end (begins_after (h.0 + length t) ts h.4), in_order (h.0 + length t + 1) ts h.4)

  -- ---- lines

  -- the line is the file's, its tokens are slices of the text and in order
  pub record IsGood (file : List ℕ) (line : LineView) : Type 0 where
    pub of_file : line.file ≡ file
    pub slices : IsCutFrom text line
    pub in_order : IsInOrder line

  module _ (file : List ℕ) where
    line_good : (number : ℕ) (tokens : List TokenView) → AllByRecursion (IsSlice text) tokens → AreInOrder tokens → AllByRecursion (IsGood file) (line_of file number tokens)
    line_good number [] s o = tt
    line_good number (t ∷ ts) s o = by_test (is_comment t)
      where
        by_test : (comment : Bool) → AllByRecursion (IsGood file) (cond comment [] (record { file = file; line = number; opcode = t; operands = ts } ∷ []))
        by_test true = tt
        by_test false = (record { of_file = refl; slices = s; in_order = o }, tt)

-- the bytes of a piece are where it begins
piece_bytes : (text : List ℕ) (i n : ℕ) (xs : List ℕ) → drop i text ≡ xs → AreBytesAt text i (enumerate_from i (take n xs))
piece_bytes text i zero xs e = tt
piece_bytes text i (suc n) [] e = tt
piece_bytes text i (suc n) (x ∷ xs) e =
    let inside : i < length text = omega (arith, simp length-drop at (ap length e)) in
    let first = sym (drop-cons text i 0 inside) ∙ e in
    let here : get_or text i 0 ≡ x = cc in
    let others : drop (suc i) text ≡ xs = cc in
    (refl, inside, here, piece_bytes text (i + 1) n xs (rw add-one others))

-- the line of a piece is good
pub piece_good : (text file : List ℕ) (number from to : ℕ) → AllByRecursion (IsGood text file) (line_of file number (map token_of (tokens (piece text from to))))
piece_good text file number from to =
    let ts = tokens (piece text from to) in
    let stand = tokens_from text from (piece text from to) (piece_bytes text from (to - from) (drop from text) refl) in
    line_good text file number (map token_of ts) (slices text from ts stand) (in_order text from ts stand)

pub all_more : {X : Type 0} (P Q : X → Type 0) → ((x : X) → P x → Q x) → (xs : List X) → AllByRecursion P xs → AllByRecursion Q xs
all_more P Q more [] h = tt
all_more P Q more (x ∷ xs) h = (more x h.0, all_more P Q more xs h.1)

-- what holds of each element, by its place
pub all_of : {X : Type 0} (P : X → Type 0) (xs : List X) → AllByRecursion P xs → All P xs
all_of P [] h k d l = absurd (omega arith)
all_of P (x ∷ xs) h zero d l = h.0
all_of P (x ∷ xs) h (suc k) d l = all_of P xs h.1 k d (omega arith)
