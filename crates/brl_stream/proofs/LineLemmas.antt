-- The lines of bytes: the first line, and the others.
use Rattle.std.proofs.Common.{◌≡◌, ◌≢◌, ℕ, zero, suc, ◌+◌, ◌-◌, ◌<◌, ◌≤◌, Bool, true, false, ◌&&◌, ◌||◌, cond, nat_eq, List, [], ◌∷◌, ◌++◌, length, take, get_or, refl, ap, arith, inl, inr, sym, ◌∙◌}
use Rattle.std.proofs.lemmas.Bool.{or_parts}
use Rattle.std.proofs.lemmas.Bool.Decides.{eqb_tells}
use Rattle.std.proofs.lemmas.List.Sums.{sum_by-cons}
use Rattle.std.specs.Prelude.{map}
use Rattle.std.specs.List.{list_any, enumerate_from}
use Rattle.brl_lines.specs.Rows.{rows, onto, feed_is_next}
use Rattle.brl_stream.specs.InputLines.{is_feed, lines_of, feeds, without_return}
use Rattle.brl_rules.proofs.Facts.{and-false}
use Rattle.brl_lines.proofs.RowLemmas.{not_equal}

-- ---- lines

-- the lines, cut from the bytes without their places
abbrev feed_first : List ℕ → Bool
feed_first [] = false
feed_first (b ∷ bs) = nat_eq b 10

abbrev cut : List ℕ → List (List ℕ)
cut [] = []
cut (b ∷ bs) = cond (nat_eq b 10) ([] ∷ cut bs) (cond (nat_eq b 13 && feed_first bs) (cut bs) (onto b (cut bs)))

abbrev plain_rows : List (List (ℕ × ℕ)) → List (List ℕ)
plain_rows rs = map (λ row. map (λ b. b.1) row) rs

same_next : (n : ℕ) (bs : List ℕ) → feed_is_next (enumerate_from n bs) ≡ feed_first bs
same_next n [] = refl
same_next n (b ∷ bs) = refl

onto-plain : (b : ℕ × ℕ) (rs : List (List (ℕ × ℕ))) → plain_rows (onto b rs) ≡ onto b.1 (plain_rows rs)
onto-plain b [] = refl
onto-plain b (r ∷ rs) = refl

one_more : (x y : Bool) (b : ℕ × ℕ) (rs : List (List (ℕ × ℕ))) (ls : List (List ℕ)) → plain_rows rs ≡ ls
    → plain_rows (cond x ([] ∷ rs) (cond y rs (onto b rs))) ≡ cond x ([] ∷ ls) (cond y ls (onto b.1 ls))
one_more true y b rs ls h = ap (λ xs. [] ∷ xs) h
one_more false true b rs ls h = h
one_more false false b rs ls h = onto-plain b rs ∙ ap (onto b.1) h

rows-cut : (n : ℕ) (bs : List ℕ) → plain_rows (rows (enumerate_from n bs)) ≡ cut bs
rows-cut n [] = refl
rows-cut n (b ∷ bs) =
    rw (same_next (n + 1) bs)
    (one_more (nat_eq b 10) (nat_eq b 13 && feed_first bs) (n, b) (rows (enumerate_from (n + 1) bs)) (cut bs) (rows-cut (n + 1) bs))

lines_of-cut : (bs : List ℕ) → lines_of bs ≡ cut bs
lines_of-cut bs = rows-cut 0 bs

before_feed : (b : ℕ) (more : List ℕ) (r : Bool) → cond (r && true) ([] ∷ cut more) (onto b ([] ∷ cut more)) ≡ cond r [] (b ∷ []) ∷ cut more
before_feed b more true = refl
before_feed b more false = refl

cut-line : (row more : List ℕ) → list_any is_feed row ≡ false → cut (row ++ 10 ∷ more) ≡ without_return row ∷ cut more
cut-line [] more h = refl
cut-line (b ∷ []) more h = let first : nat_eq b 10 ≡ false = (or_parts _ _ h).0 in rw first (before_feed b more (nat_eq b 13))
cut-line (b ∷ c ∷ row) more h =
    let others = (or_parts _ _ h).1 in
    let first : nat_eq b 10 ≡ false = (or_parts _ _ h).0 in
    let second : nat_eq c 10 ≡ false = (or_parts _ _ others).0 in
    let not_end : (nat_eq b 13 && nat_eq c 10) ≡ false = rw second (and-false (nat_eq b 13)) in
    rw (first, not_end, cut-line (c ∷ row) more others) refl

cut-plain : (b : ℕ) (bs : List ℕ) → list_any is_feed (b ∷ bs) ≡ false → cut (b ∷ bs) ≡ (b ∷ bs) ∷ []
cut-plain b [] h =
    let first : nat_eq b 10 ≡ false = (or_parts _ _ h).0 in
    let not_end : (nat_eq b 13 && false) ≡ false = and-false (nat_eq b 13) in
    rw (first, not_end) refl
cut-plain b (c ∷ bs) h =
    let others = (or_parts _ _ h).1 in
    let first : nat_eq b 10 ≡ false = (or_parts _ _ h).0 in
    let second : nat_eq c 10 ≡ false = (or_parts _ _ others).0 in
    let not_end : (nat_eq b 13 && nat_eq c 10) ≡ false = rw second (and-false (nat_eq b 13)) in
    rw (first, not_end, cut-plain c bs others) refl

-- the first line ends at the first line feed
pub lines_of-line : (row more : List ℕ) → list_any is_feed row ≡ false → lines_of (row ++ 10 ∷ more) ≡ without_return row ∷ lines_of more
lines_of-line row more h = lines_of-cut (row ++ 10 ∷ more) ∙ cut-line row more h ∙ ap (λ ls. without_return row ∷ ls) (sym (lines_of-cut more))

-- without a line feed there is one line
pub lines_of-plain : (b : ℕ) (bs : List ℕ) → list_any is_feed (b ∷ bs) ≡ false → lines_of (b ∷ bs) ≡ (b ∷ bs) ∷ []
lines_of-plain b bs h = lines_of-cut (b ∷ bs) ∙ cut-plain b bs h

feeds-cons : (b : ℕ) (bs : List ℕ) → feeds (b ∷ bs) ≡ cond (nat_eq b 10) 1 0 + feeds bs
feeds-cons b bs = sum_by-cons (λ x. cond (is_feed x) 1 0) b bs

pub feeds-line : (row more : List ℕ) → list_any is_feed row ≡ false → feeds (row ++ 10 ∷ more) ≡ suc (feeds more)
feeds-line [] more h = let one = feeds-cons 10 more in omega (arith, one)
feeds-line (b ∷ row) more h =
    let first : nat_eq b 10 ≡ false = (or_parts _ _ h).0 in
    let others : feeds (row ++ 10 ∷ more) ≡ suc (feeds more) = feeds-line row more (or_parts (is_feed b) (list_any is_feed row) h).1 in
    feeds-cons b (row ++ 10 ∷ more) ∙ rw first (omega (arith, others))

pub feeds-plain : (bs : List ℕ) → list_any is_feed bs ≡ false → feeds bs ≡ 0
feeds-plain [] h = refl
feeds-plain (b ∷ bs) h =
    let first : nat_eq b 10 ≡ false = (or_parts _ _ h).0 in
    let others : feeds bs ≡ 0 = feeds-plain bs (or_parts (is_feed b) (list_any is_feed bs) h).1 in
    feeds-cons b bs ∙ rw first (omega (arith, others))

-- ---- carriage returns

pub take-return : (bs : List ℕ) (n : ℕ) → length bs ≡ n + 1 → get_or bs n 0 ≡ 13 → take n bs ≡ without_return bs
take-return [] n e r = absurd (omega arith)
take-return (b ∷ []) n e r =
    let none : n ≡ 0 = omega arith in
    let last : b ≡ 13 = rw none at r in
    rw (none, last) refl
take-return (b ∷ c ∷ bs) zero e r = absurd (omega arith)
take-return (b ∷ c ∷ bs) (suc n) e r = let fewer : length (c ∷ bs) ≡ n + 1 = omega arith in ap (λ xs. b ∷ xs) (take-return (c ∷ bs) n fewer r)

pub no_return : (bs : List ℕ) → (0 < length bs → get_or bs (length bs - 1) 0 ≢ 13) → bs ≡ without_return bs
no_return [] h = refl
no_return (b ∷ []) h = rw (not_equal b 13 (h (omega arith))) refl
no_return (b ∷ c ∷ bs) h =
    ap (λ xs. b ∷ xs) (no_return (c ∷ bs) (λ l e. h (omega arith) (last e)))
  where
    last : get_or (c ∷ bs) (length (c ∷ bs) - 1) 0 ≡ 13 → get_or (b ∷ c ∷ bs) (length (b ∷ c ∷ bs) - 1) 0 ≡ 13
    last e = let one : length (b ∷ c ∷ bs) - 1 ≡ suc (length (c ∷ bs) - 1) = omega arith in rw one e

shorter : (b : ℕ) (r : Bool) → length (cond r [] (b ∷ [])) ≤ 1
shorter b true = omega arith
shorter b false = omega arith

pub without_return-le : (bs : List ℕ) → length (without_return bs) ≤ length bs
without_return-le [] = omega arith
without_return-le (b ∷ []) = shorter b (nat_eq b 13)
without_return-le (b ∷ c ∷ bs) = let others = without_return-le (c ∷ bs) in omega (arith, others)

pub le-without_return : (bs : List ℕ) → length bs ≤ length (without_return bs) + 1
le-without_return [] = omega arith
le-without_return (b ∷ []) = omega arith
le-without_return (b ∷ c ∷ bs) = let others = le-without_return (c ∷ bs) in omega (arith, others)
