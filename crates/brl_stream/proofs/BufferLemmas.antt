-- The bytes in a buffer, and a read after them.
use Rattle.std.proofs.Common.{◌≡◌, ℕ, suc, ◌+◌, ◌-◌, ◌<◌, ◌≤◌, true, false, nat_lt, List, [], ◌∷◌, ◌++◌, length, take, drop, refl, ap, sym, ◌∙◌, arith, Option, None, Some, length-append, append_assoc, append-nil, length-drop, length-take, ◌⊎◌, inl, inr}
use Rattle.std.proofs.lemmas.Bool.Decides.{leb_tells}
use Rattle.std.proofs.lemmas.List.{drop-take, drop-drop, length-take-le}
use Rattle.std.proofs.Math.Seq.{take-append_seam, take-add}
use Rattle.std.specs.List.{slice_range}
use Rattle.std.specs.Io.KnownBytes.{Consumes}
use Rattle.brl_stream.specs.InputBuffer.{IsRest}

-- ys, written over the start of zs
pub refilled : (len : ℕ) (ys zs : List ℕ) → length ys ≡ len → take len (ys ++ drop (length ys) zs) ≡ ys
refilled len ys zs h = rw (← h) (take-append_seam ys (drop (length ys) zs))

-- a range of a prefix
pub range-front : (xs ys : List ℕ) (s e : ℕ) → s ≤ e → take e xs ≡ take e ys → slice_range xs s e ≡ slice_range ys s e
range-front xs ys s e h same =
    let whole : s + (e - s) ≡ e = omega arith in
    sym (drop-take s (e - s) xs) ∙ ap (λ n. drop s (take n xs)) whole ∙ ap (drop s) same ∙ ap (λ n. drop s (take n ys)) (sym whole) ∙ drop-take s (e - s) ys

-- a range and n more elements
pub range-more : (xs : List ℕ) (s e n : ℕ) → s ≤ e → slice_range xs s (e + n) ≡ slice_range xs s e ++ slice_range xs e (e + n)
range-more xs s e n h =
    let longer : (e + n) - s ≡ (e - s) + n = omega arith in
    let more : (e + n) - e ≡ n = omega arith in
    let behind : s + (e - s) ≡ e = omega arith in
    ap (λ k. take k (drop s xs)) longer ∙ take-add (e - s) n (drop s xs)
    ∙ ap (λ l. take (e - s) (drop s xs) ++ take n l) (drop-drop (e - s) s xs ∙ ap (λ k. drop k xs) behind)
    ∙ ap (λ k. slice_range xs s e ++ take k (drop e xs)) (sym more)

pub length-range : (xs : List ℕ) (s e : ℕ) → s ≤ e → e ≤ length xs → length (slice_range xs s e) ≡ e - s
length-range xs s e h room = length-take-le (e - s) (drop s xs) (omega (arith, length-drop s xs))

range-none : (xs : List ℕ) (e n : ℕ) → n ≡ 0 → slice_range xs e (e + n) ≡ []
range-none xs e n h = let none : (e + n) - e ≡ 0 = omega arith in rw none refl

one_byte : (xs : List ℕ) → length xs ≡ 1 → (b : ℕ) × (xs ≡ b ∷ [])
one_byte [] h = absurd (omega (arith, h))
one_byte (b ∷ []) h = (b, refl)
one_byte (b ∷ c ∷ xs) h = absurd (omega (arith, h))

-- all bytes that were read are in the buffer
all_wait : (old got rest : List ℕ) (before after : Option (List ℕ)) → Consumes before after got → before ≡ Some rest
    → (later : List ℕ) × (after ≡ Some later) × (rest ≡ got ++ later)
all_wait old got rest None after is e = absurd (no_bytes e)
  where
    no_bytes : None ≡ Some rest → ⊥
    no_bytes h = cc
all_wait old got rest (Some xs) None is e = absurd is
all_wait old got rest (Some xs) (Some ys) is e = let same : rest ≡ xs = cc in (ys, refl, same ∙ is)

-- a read of `count` bytes after those from s to e; `within` of them are within the limit
pub record IsRead (len s e count within : ℕ) (old zs ys : List ℕ) : Type 0 where
  pub is : slice_range zs s e ≡ old
  pub order : s ≤ e
  pub room : e + count ≤ len
  pub sized : length ys ≡ len
  pub front : take e ys ≡ take e zs
  pub few : within ≤ count

module _ {len s e count within : ℕ} {old zs ys : List ℕ} (read : IsRead len s e count within old zs ys) where
  abbrev now : List ℕ
  now = slice_range (take len (ys ++ drop (length ys) zs)) s (e + within)

  now-is : now ≡ old ++ slice_range ys e (e + within)
  now-is =
      ap (λ l. slice_range l s (e + within)) (refilled len ys zs read.sized) ∙ range-more ys s e within read.order
      ∙ ap (λ l. l ++ slice_range ys e (e + within)) (range-front ys zs s e read.order read.front ∙ read.is)

  pub read_after : take (length old) now ≡ old
  read_after = ap (take (length old)) now-is ∙ take-append_seam old (slice_range ys e (e + within))

  pub read_none : count ≡ 0 → now ≡ old
  read_none h = now-is ∙ ap (λ l. old ++ l) (range-none ys e within (omega arith)) ∙ append-nil old

  pub read_length : length now ≡ length old + within
  read_length =
      let more = length-range ys e (e + within) (omega arith) (omega (arith, read.sized, read.room, read.few)) in
      let whole = length-append old (slice_range ys e (e + within)) in
      ap length now-is ∙ omega (arith, more, whole)

  module _ (before after : Option (List ℕ)) (consumes : Consumes before after (slice_range ys e (e + count))) (one : count ≤ within + 1)
      (rest : List ℕ) (known : before ≡ Some rest) where
    read_rest_by : ((nat_lt within count ≡ true) × (within < count)) ⊎ ((nat_lt within count ≡ false) × (count < suc within))
        → (later : List ℕ) × IsRest (nat_lt within count) after later × (old ++ rest ≡ now ++ later)
    read_rest_by (inr x) =
        let all : count ≡ within = omega (arith, x.1) in
        let w = all_wait old (slice_range ys e (e + count)) rest before after consumes known in
        rw x.0 (
          w.0,
          w.1,
          ap (λ l. old ++ l) (w.2 ∙ ap (λ k. slice_range ys e (e + k) ++ w.0) all) ∙ sym (append_assoc old (slice_range ys e (e + within)) w.0) ∙ ap (λ l. l ++ w.0) (sym now-is),
        )
    read_rest_by (inl x) =
        let all : e + count ≡ (e + within) + 1 = omega (arith, x.1) in
        let w = all_wait old (slice_range ys e (e + count)) rest before after consumes known in
        let tail = one_byte (slice_range ys (e + within) ((e + within) + 1)) (length-range ys (e + within) ((e + within) + 1) (omega arith) (omega (arith, read.sized)) ∙ omega arith) in
        let got : slice_range ys e (e + count) ≡ slice_range ys e (e + within) ++ tail.0 ∷ [] =
        ap (slice_range ys e) all ∙ range-more ys e (e + within) 1 (omega arith) ∙ ap (λ l. slice_range ys e (e + within) ++ l) tail.1 in
        rw x.0 (
          tail.0 ∷ w.0,
          (tail.0, w.0, w.1, refl),
          ap (λ l. old ++ l) (w.2 ∙ ap (λ l. l ++ w.0) got ∙ append_assoc (slice_range ys e (e + within)) (tail.0 ∷ []) w.0)
              ∙ sym (append_assoc old (slice_range ys e (e + within)) (tail.0 ∷ w.0)) ∙ ap (λ l. l ++ tail.0 ∷ w.0) (sym now-is),
        )

    pub read_rest : (later : List ℕ) × IsRest (nat_lt within count) after later × (old ++ rest ≡ now ++ later)
    read_rest = read_rest_by (leb_tells (suc within) count)

-- a range without its first n elements
pub range-drop : (xs : List ℕ) (s e n : ℕ) → n ≤ length (slice_range xs s e) → slice_range xs (s + n) e ≡ drop n (slice_range xs s e)
range-drop xs s e n h =
    let within : n ≤ e - s = omega (arith, h, length-take (e - s) (drop s xs)) in
    let fewer : n + (e - (s + n)) ≡ e - s = omega arith in
    ap (take (e - (s + n))) (sym (drop-drop n s xs)) ∙ sym (drop-take n (e - (s + n)) (drop s xs)) ∙ ap (λ k. drop n (take k (drop s xs))) fewer
