-- What dots operands are read from is ASCII, and so it is text.
use Rattle.std.proofs.Common.{◌≡◌, ℕ, zero, suc, ◌<◌, leb, get_or, Bool, true, false, not, ◌||◌, eqb, cond, List, [], ◌∷◌, ◌++◌, length, Option, Some, None, Result, Ok, Err, refl, sym, subst, arith}
use Rattle.std.specs.Prelude.{codes}
use Rattle.std.specs.Result.{result_ok}
use Rattle.std.specs.Str.{IsUtf8, bytes_eq}
use Rattle.std.specs.List.{AllByRecursion, join_with_byte, sum_by}
use Rattle.std.proofs.lemmas.Bool.Decides.{Decides-eqb}
use Rattle.std.proofs.lemmas.List.Splits.{join_with_byte-slice_split}
use Rattle.std.proofs.lemmas.Slice.Eq.{bytes_eq-Decides}
use Rattle.std.proofs.lemmas.Str.{IsUtf8-from_ascii}
use Rattle.brl_cells.specs.declared.fault.DotsFault.{DotsFault}
use Rattle.brl_cells.specs.declared.fault.DotsFault.TheVariants.{EmptyCell, BadDot, RepeatedDot, TooManyCells}
use Rattle.brl_cells.specs.Dots.{dot_marks, dot_number, is_among, mark_fault, first_of_two, first_fault, unless_fault, cell_reading, cells_reading, parts, reading as dots_reading}
use Rattle.brl_failure.specs.Failure.{◌>>=◌}

abbrev pub AreLow : List ℕ → Type 0
AreLow bytes = AllByRecursion (λ b. b < 128) bytes

stands_low : (marks : List ℕ) (mark : ℕ) → AreLow marks → is_among marks mark ≡ true → mark < 128
stands_low [] mark h e = absurd cc
stands_low (m ∷ marks) mark h e = by_test (eqb m mark) refl e (stands_low marks mark h.1)
  where
    by_test : (t : Bool) → eqb m mark ≡ t → t || is_among marks mark ≡ true → (is_among marks mark ≡ true → mark < 128) → mark < 128
    by_test true is e k = (let same : m ≡ mark = (Decides-eqb m mark).0 is in subst (λ (n : ℕ). n < 128) same h.0)
    by_test false is e k = k e

dots_low : AreLow dot_marks
dots_low = (omega arith, (omega arith, (omega arith, (omega arith, (omega arith, (omega arith, (omega arith, (omega arith, tt))))))))

both_none : (first later : Option DotsFault) → first_of_two first later ≡ None → (first ≡ None) × (later ≡ None)
both_none (Some fault) later e = absurd cc
both_none None later e = (refl, e)

no_fault_low : (before : List ℕ) (mark : ℕ) → mark_fault before mark ≡ None → mark < 128
no_fault_low before mark e = by_test (is_among dot_marks mark) refl e
  where
    by_test : (t : Bool) → is_among dot_marks mark ≡ t → cond (not t) (Some BadDot) (cond (is_among before mark) (Some RepeatedDot) None) ≡ None → mark < 128
    by_test true is e = stands_low dot_marks mark dots_low is
    by_test false is e = absurd cc

marks_low : (before marks : List ℕ) → first_fault before marks ≡ None → AreLow marks
marks_low before [] e = tt
marks_low before (mark ∷ marks) e =
    let both = both_none (mark_fault before mark) (first_fault (before ++ mark ∷ []) marks) e in
    (no_fault_low before mark both.0, marks_low (before ++ mark ∷ []) marks both.1)

no_fault : (fault : Option DotsFault) (sum cell : ℕ) → unless_fault fault sum ≡ Ok cell → fault ≡ None
no_fault None sum cell e = refl
no_fault (Some fault) sum cell e = absurd cc

cell_low : (marks : List ℕ) (cell : ℕ) → cell_reading marks ≡ Ok cell → AreLow marks
cell_low marks cell e = by_none (eqb (length marks) 0) e
  where
    by_blank : (t : Bool) → bytes_eq marks (codes "0") ≡ t → cond t (Ok 0) (unless_fault (first_fault [] marks) (sum_by dot_number marks)) ≡ Ok cell → AreLow marks
    by_blank true is e = subst AreLow (sym ((bytes_eq-Decides marks (codes "0")).0 is)) (omega arith, tt)
    by_blank false is e = marks_low [] marks (no_fault (first_fault [] marks) (sum_by dot_number marks) cell e)

    by_none : (t : Bool) → cond t (Err EmptyCell) (cond (bytes_eq marks (codes "0")) (Ok 0) (unless_fault (first_fault [] marks) (sum_by dot_number marks))) ≡ Ok cell → AreLow marks
    by_none true e = absurd cc
    by_none false e = by_blank (bytes_eq marks (codes "0")) refl e

-- a cell before others, as the reading of parts has them
abbrev before_cells : Result ℕ DotsFault → Result (List ℕ) DotsFault → Result (List ℕ) DotsFault
before_cells first rest = first >>= λ cell. rest >>= λ cells. Ok (cell ∷ cells)

before_ok : (first : Result ℕ DotsFault) (rest : Result (List ℕ) DotsFault) (cells : List ℕ) → before_cells first rest ≡ Ok cells → ((cell : ℕ) × (first ≡ Ok cell)) × ((others : List ℕ) × (rest ≡ Ok others))
before_ok (Err fault) rest cells e = absurd cc
before_ok (Ok cell) (Err fault) cells e = absurd cc
before_ok (Ok cell) (Ok others) cells e = ((cell, refl), (others, refl))

cells_low : (pieces : List (List ℕ)) (cells : List ℕ) → cells_reading pieces ≡ Ok cells → AllByRecursion AreLow pieces
cells_low [] cells e = tt
cells_low (piece ∷ pieces) cells e =
    let both = before_ok (cell_reading piece) (cells_reading pieces) cells e in
    (cell_low piece both.0.0 both.0.1, cells_low pieces both.1.0 both.1.1)

low_append : (a b : List ℕ) → AreLow a → AreLow b → AreLow (a ++ b)
low_append [] b h k = k
low_append (x ∷ a) b h k = (h.0, low_append a b h.1 k)

joined_low : (pieces : List (List ℕ)) → AllByRecursion AreLow pieces → AreLow (join_with_byte 45 pieces)
joined_low [] h = tt
joined_low (piece ∷ []) h = h.0
joined_low (piece ∷ next ∷ pieces) h = low_append piece (45 ∷ join_with_byte 45 (next ∷ pieces)) h.0 (omega arith, joined_low (next ∷ pieces) h.1)

-- cells, where they are not too many
abbrev pub limited : ℕ → Result (List ℕ) DotsFault → Result (List ℕ) DotsFault
limited most read = read >>= λ cells. cond (leb (length cells) most) (Ok cells) (Err TooManyCells)

limited_ok : (most : ℕ) (read : Result (List ℕ) DotsFault) (cells : List ℕ) → limited most read ≡ Ok cells → (others : List ℕ) × (read ≡ Ok others)
limited_ok most (Err fault) cells e = absurd cc
limited_ok most (Ok others) cells e = (others, refl)

low_at : (bytes : List ℕ) → AreLow bytes → (i : ℕ) → get_or bytes i 0 < 128
low_at [] h i = omega arith
low_at (b ∷ bytes) h zero = h.0
low_at (b ∷ bytes) h (suc i) = low_at bytes h.1 i

pub read_is_text : (most : ℕ) (bytes cells : List ℕ) → dots_reading most bytes ≡ Ok cells → IsUtf8 bytes
read_is_text most bytes cells e =
    let read = limited_ok most (cells_reading (parts bytes)) cells e in
    let low : AreLow bytes = subst AreLow (join_with_byte-slice_split 45 bytes) (joined_low (parts bytes) (cells_low (parts bytes) read.0 read.1)) in
    IsUtf8-from_ascii bytes (low_at bytes low)

-- bytes that are no text spell no cells
pub no_text_no_cells : (most : ℕ) (bytes : List ℕ) → (IsUtf8 bytes → ⊥) → None ≡ result_ok (dots_reading most bytes)
no_text_no_cells most bytes untrue = by_read (dots_reading most bytes) refl
  where
    by_read : (read : Result (List ℕ) DotsFault) → dots_reading most bytes ≡ read → None ≡ result_ok read
    by_read (Ok cells) e = absurd (untrue (read_is_text most bytes cells e))
    by_read (Err fault) e = refl
