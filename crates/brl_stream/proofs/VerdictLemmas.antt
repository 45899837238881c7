-- What the lines of an input give: the first line, and the others.
use Rattle.std.proofs.Common.{◌≡◌, ℕ, suc, ◌+◌, ◌-◌, ◌<◌, ◌≤◌, Bool, true, false, cond, nat_eq, nat_le, List, [], ◌∷◌, ◌++◌, length, take, refl, ap, sym, ◌∙◌, arith, Err, length-append, append_assoc, append-nil, ◌⊎◌, inl, inr}
use Rattle.std.proofs.lemmas.Bool.Decides.{leb_tells}
use Rattle.std.proofs.lemmas.Bool.{le-leb, eqb-true, le-ltb, lt-leb, lt-ltb}
use Rattle.std.proofs.lemmas.List.Folds.{list_any-append}
use Rattle.std.proofs.Math.Seq.{take-append_seam}
use Rattle.std.specs.Prelude.{map}
use Rattle.std.specs.List.{list_any}
use Rattle.brl_stream.specs.InputLines.{is_feed, lines_of, without_return}
use Rattle.brl_stream.specs.Output.{LineResult, decided, verdict_within}
use Rattle.brl_stream.specs.declared.fault.LineFault.TheVariants as faults
use Rattle.brl_stream.proofs.LineLemmas.{lines_of-line, lines_of-plain, feeds-line, feeds-plain, without_return-le, le-without_return}

-- a line of more than 65,536 bytes has no output
abbrev pub RefusesLong : (List ℕ → LineResult) → Type 0
RefusesLong output = (line : List ℕ) → 65536 < length line → output line ≡ Err faults.InputLineTooLong

-- ---- what bytes decide

pub decided-line : (output : List ℕ → LineResult) (row more : List ℕ) → list_any is_feed row ≡ false
    → decided output (row ++ 10 ∷ more) ≡ output (without_return row) ∷ decided output more
unfolding decided
decided-line output row more h = rw (feeds-line row more h, lines_of-line row more h) refl

pub decided-short : (output : List ℕ → LineResult) (bs : List ℕ) → list_any is_feed bs ≡ false → length (without_return bs) ≤ 65536 → decided output bs ≡ []
unfolding decided
decided-short output [] h short = refl
decided-short output (b ∷ bs) h short =
    let test = le-ltb 65536 (length (without_return (b ∷ bs))) short in
    rw (feeds-plain (b ∷ bs) h, lines_of-plain b bs h, test) refl

pub decided-long : (output : List ℕ → LineResult) (bs : List ℕ) → list_any is_feed bs ≡ false → 65536 < length (without_return bs)
    → decided output bs ≡ Err faults.InputLineTooLong ∷ []
unfolding decided
decided-long output [] h long = absurd (omega arith)
decided-long output (b ∷ bs) h long =
    let test = lt-ltb 65536 (length (without_return (b ∷ bs))) long in
    rw (feeds-plain (b ∷ bs) h, lines_of-plain b bs h, test) refl

-- ---- the verdict, a line at a time

take-line : (row more : List ℕ) (most : ℕ) → length row + 1 ≤ most → take most (row ++ 10 ∷ more) ≡ row ++ 10 ∷ take (most - (length row + 1)) more
take-line [] more most h = let e : most ≡ suc (most - 1) = omega arith in rw e (ap (λ n. 10 ∷ take n more) (omega arith))
take-line (b ∷ row) more most h =
    let e : most ≡ suc (most - 1) = omega arith in
    let same : (most - 1) - (length row + 1) ≡ most - (length (b ∷ row) + 1) = omega arith in
    rw e (ap (λ xs. b ∷ xs) (take-line row more (most - 1) (omega arith) ∙ ap (λ n. row ++ 10 ∷ take n more) (same ∙ ap (λ n. n - (length (b ∷ row) + 1)) e)))

length-line : (row more : List ℕ) → length (row ++ 10 ∷ more) ≡ length row + (length more + 1)
length-line row more = omega (arith, length-append row (10 ∷ more))

same-test : (a b c d : ℕ) → (a ≤ b → c ≤ d) → (c ≤ d → a ≤ b) → nat_le a b ≡ nat_le c d
same-test a b c d f g = elim (leb_tells a b) [
  | inl x ↦ elim (leb_tells c d) [ inl y ↦ x.0 ∙ sym y.0 | inr y ↦ absurd (omega (arith, y.1, f x.1)) ]
  | inr x ↦ elim (leb_tells c d) [ inl y ↦ absurd (omega (arith, x.1, g y.1)) | inr y ↦ x.0 ∙ sym y.0 ]
]

first_of_both : (b : Bool) (x : LineResult) (ys zs : List LineResult) → cond b (x ∷ ys) (x ∷ zs) ≡ x ∷ cond b ys zs
first_of_both true x ys zs = refl
first_of_both false x ys zs = refl

pub verdict-line : (output : List ℕ → LineResult) (most : ℕ) (row more : List ℕ) → list_any is_feed row ≡ false → length row + 1 ≤ most
    → verdict_within output most (row ++ 10 ∷ more) ≡ output (without_return row) ∷ verdict_within output (most - (length row + 1)) more
unfolding verdict_within
verdict-line output most row more plain room =
    let less = take (most - (length row + 1)) more in
    let test : nat_le (length (row ++ 10 ∷ more)) most ≡ nat_le (length more) (most - (length row + 1)) =
    same-test _ _ _ _ (λ a. omega (arith, length-line row more)) (λ a. omega (arith, length-line row more)) in
    let cut = take-line row more most room in
    let front = decided-line output row (take (most - (length row + 1)) more) plain in
    rw (test, lines_of-line row more plain, cut, front)
    (first_of_both (nat_le (length more) (most - (length row + 1))) (output (without_return row)) (map output (lines_of more)) (decided output less ++ Err faults.InputTooLong ∷ []))

-- the last line, which no line feed ends
pub verdict-last : (output : List ℕ → LineResult) (most : ℕ) (b : ℕ) (bs : List ℕ) → list_any is_feed (b ∷ bs) ≡ false → length (b ∷ bs) ≤ most
    → verdict_within output most (b ∷ bs) ≡ output (b ∷ bs) ∷ []
unfolding verdict_within
verdict-last output most b bs plain room = let test = le-leb (length (b ∷ bs)) most room in rw (test, lines_of-plain b bs plain) refl

pub verdict-nil : (output : List ℕ → LineResult) (most : ℕ) → verdict_within output most [] ≡ []
unfolding verdict_within
verdict-nil output most = let test = le-leb 0 most (omega arith) in rw test refl

-- no line feed among the bytes that may be used, and more follow
pub verdict-beyond : (output : List ℕ → LineResult) (most : ℕ) (bs more : List ℕ) → length bs ≡ most → 0 < length more
    → verdict_within output most (bs ++ more) ≡ decided output bs ++ Err faults.InputTooLong ∷ []
unfolding verdict_within
verdict-beyond output most bs more full any =
    let test = lt-leb (length (bs ++ more)) most (omega (arith, length-append bs more)) in
    let cut : take most (bs ++ more) ≡ bs = rw (← full) (take-append_seam bs more) in
    rw (test, cut) refl

pub verdict-too_long : (output : List ℕ → LineResult) (most : ℕ) (bs more : List ℕ) → list_any is_feed bs ≡ false → length (without_return bs) ≤ 65536
    → length bs ≡ most → 0 < length more → verdict_within output most (bs ++ more) ≡ Err faults.InputTooLong ∷ []
verdict-too_long output most bs more plain short full any =
    verdict-beyond output most bs more full any ∙ ap (λ ls. ls ++ Err faults.InputTooLong ∷ []) (decided-short output bs plain short)

-- ---- lines that are too long

abbrev pub IsLongFirst : List LineResult → Type 0
IsLongFirst lines = (others : List LineResult) × (lines ≡ Err faults.InputLineTooLong ∷ others)

long_step : (output : List ℕ → LineResult) (most b : ℕ) (p more : List ℕ) → RefusesLong output → list_any is_feed p ≡ false → 65536 < length (without_return p)
    → (list_any is_feed (p ++ b ∷ []) ≡ false → length (p ++ b ∷ []) ≤ most → 65536 < length (without_return (p ++ b ∷ [])) → IsLongFirst (verdict_within output most ((p ++ b ∷ []) ++ more)))
    → (r : Bool) → nat_eq b 10 ≡ r → ((nat_le (length p + 1) most ≡ true) × (length p + 1 ≤ most)) ⊎ ((nat_le (length p + 1) most ≡ false) × (most < length p + 1)) → length p ≤ most
    → IsLongFirst (verdict_within output most (p ++ b ∷ more))
long_step output most b p more law plain long again r e (inr x) room =
    (Err faults.InputTooLong ∷ [], verdict-beyond output most p (b ∷ more) (omega (arith, x.1)) (omega arith) ∙ ap (λ ls. ls ++ Err faults.InputTooLong ∷ []) (decided-long output p plain long))
long_step output most b p more law plain long again true e (inl x) room =
    let feed : b ≡ 10 = eqb-true b 10 e in
    let others = verdict_within output (most - (length p + 1)) more in
    (others, rw feed (verdict-line output most p more plain x.1 ∙ ap (λ l. l ∷ others) (law (without_return p) long)))
long_step output most b p more law plain long again false e (inl x) room =
    let longer : length (p ++ b ∷ []) ≡ length p + 1 = omega (arith, length-append p (b ∷ [])) in
    let no_feed : list_any is_feed (p ++ b ∷ []) ≡ false = list_any-append is_feed p (b ∷ []) ∙ rw (plain, e) refl in
    rw (← append_assoc p (b ∷ []) more)
    (again no_feed (omega (arith, longer, x.1)) (omega (arith, longer, le-without_return (p ++ b ∷ []), without_return-le p)))

-- a line is too long before its end comes
pub verdict-long : (output : List ℕ → LineResult) (most : ℕ) (p more : List ℕ) → RefusesLong output → list_any is_feed p ≡ false → length p ≤ most → 65536 < length (without_return p)
    → IsLongFirst (verdict_within output most (p ++ more))
verdict-long output most [] [] law plain room long = absurd (omega arith)
verdict-long output most (b ∷ p) [] law plain room long =
    let refused = law (b ∷ p) (omega (arith, without_return-le (b ∷ p))) in
    ([], ap (λ bs. verdict_within output most bs) (append-nil (b ∷ p)) ∙ verdict-last output most b p plain room ∙ ap (λ l. l ∷ []) refused)
verdict-long output most p (b ∷ more) law plain room long =
    long_step output most b p more law plain long (λ a c d. verdict-long output most (p ++ b ∷ []) more law a c d) (nat_eq b 10) refl (leb_tells (length p + 1) most) room
