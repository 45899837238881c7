-- Whatever is read are cells: different dots add up to less than 256.
use Rattle.std.proofs.Common.{◌≡◌, ℕ, ◌<◌, ◌*◌, ◌-◌, ◌%◌, ◌^◌, ltb, Bool, true, false, eqb, List, [], ◌∷◌, ◌++◌, length, Option, Some, None, Result, Ok, Err, append_assoc, refl, sym, ap, subst, ◌∙◌, arith, codes, bytes_eq, append-nil}
use Rattle.std.specs.List.{AllByRecursion, sum_by}
use Rattle.std.proofs.lemmas.Bool.Decides.{Decides-ltb}
use Rattle.std.proofs.lemmas.List.Elements.{All-from_recursion}
use Rattle.std.proofs.lemmas.Nat.{or_of_8}
use Rattle.brl_cells.specs.declared.fault.DotsFault.{DotsFault}
use Rattle.brl_cells.specs.Dots.{AreCells, dot_marks, dot_number, is_among, has_dot, first_fault, unless_fault, cell_reading, cells_reading, parts, reading}
use Rattle.brl_cells.proofs.Reading.{HasDots, with_dot, dot_more, bad_dot, repeated_dot, no_fault, read_none, of_each}
use Rattle.brl_cells.proofs.Parts.{before_cells, limited_is}

shifted_fits : (mark : ℕ) → is_among dot_marks mark ≡ true → 1 * 2 ^ (mark - 49) % 256 < 256
shifted_fits mark is = let small : ltb (1 * 2 ^ (mark - 49) % 256) 256 ≡ true = of_each (λ m. ltb (1 * 2 ^ (m - 49) % 256) 256) dot_marks refl mark is in (Decides-ltb (1 * 2 ^ (mark - 49) % 256) 256).0 small

-- marks that are read after others have dots that differ from theirs and from one another
abbrev AreApart : List ℕ → Type 0
AreApart marks = (before : List ℕ) (cell : ℕ) → HasDots cell before → cell < 256 → first_fault before marks ≡ None → sum_by dot_number (before ++ marks) < 256

with_mark : (mark : ℕ) (marks : List ℕ) → AreApart marks → (before : List ℕ) (cell : ℕ) → HasDots cell before → cell < 256 → first_fault before (mark ∷ marks) ≡ None
    → (is stands : Bool) → is_among dot_marks mark ≡ is → is_among before mark ≡ stands → sum_by dot_number (before ++ mark ∷ marks) < 256
with_mark mark marks rest before cell has lt fine false stands e f = absurd (let bad = bad_dot before marks mark e in cc)
with_mark mark marks rest before cell has lt fine true true e f = absurd (let again = repeated_dot before marks mark e f in cc)
with_mark mark marks rest before cell has lt fine true false e f =
    let unset : has_dot cell mark ≡ false = has.dots mark e ∙ f in
    let fits : with_dot cell mark < 256 = or_of_8 cell (1 * 2 ^ (mark - 49) % 256) lt (shifted_fits mark e) in
    let more = rest (before ++ mark ∷ []) (with_dot cell mark) (dot_more cell mark before e unset has) fits (sym (no_fault before marks mark e f) ∙ fine) in
    subst (λ (ms : List ℕ). sum_by dot_number ms < 256) (append_assoc before (mark ∷ []) marks) more

apart : (marks : List ℕ) → AreApart marks
apart [] before cell has lt fine = subst (λ (n : ℕ). n < 256) (has.sum ∙ ap (sum_by dot_number) (sym (append-nil before))) lt
apart (mark ∷ marks) before cell has lt fine = with_mark mark marks (apart marks) before cell has lt fine (is_among dot_marks mark) (is_among before mark) refl refl

unless_is : (fault : Option DotsFault) (sum cell : ℕ) → unless_fault fault sum ≡ Ok cell → (fault ≡ None) × (sum ≡ cell)
unless_is None sum cell e = (refl, cc)
unless_is (Some fault) sum cell e = absurd cc

by_marks : (marks : List ℕ) (cell : ℕ) (none blank : Bool) → eqb (length marks) 0 ≡ none → bytes_eq marks (codes "0") ≡ blank → cell_reading marks ≡ Ok cell → cell < 256
by_marks marks cell true blank e f is = absurd (let wrong = rw e at is in cc)
by_marks marks cell false true e f is = let zero_is : Ok 0 ≡ Ok cell = rw (e, f) at is in let same : 0 ≡ cell = cc in omega arith
by_marks marks cell false false e f is =
    let found = unless_is (first_fault [] marks) (sum_by dot_number marks) cell (rw (e, f) at is) in
    subst (λ (n : ℕ). n < 256) found.1 (apart marks [] 0 (read_none []).has (omega arith) found.0)

cell_fits : (marks : List ℕ) (cell : ℕ) → cell_reading marks ≡ Ok cell → cell < 256
cell_fits marks cell is = by_marks marks cell (eqb (length marks) 0) (bytes_eq marks (codes "0")) refl refl is

before_fits : (first : Result ℕ DotsFault) (rest : Result (List ℕ) DotsFault) → ((cell : ℕ) → first ≡ Ok cell → cell < 256) → ((others : List ℕ) → rest ≡ Ok others → AllByRecursion (λ c. c < 256) others)
    → (cells : List ℕ) → before_cells first rest ≡ Ok cells → AllByRecursion (λ c. c < 256) cells
before_fits (Err fault) rest fits others cells e = absurd cc
before_fits (Ok cell) (Err fault) fits others cells e = absurd cc
before_fits (Ok cell) (Ok more) fits others cells e = let all : cell ∷ more ≡ cells = cc in subst (AllByRecursion (λ c. c < 256)) all (fits cell refl, others more refl)

cells_fit : (pieces : List (List ℕ)) (cells : List ℕ) → cells_reading pieces ≡ Ok cells → AllByRecursion (λ c. c < 256) cells
cells_fit [] cells e = let none : [] ≡ cells = cc in subst (AllByRecursion (λ c. c < 256)) none tt
cells_fit (piece ∷ pieces) cells e = before_fits (cell_reading piece) (cells_reading pieces) (cell_fits piece) (cells_fit pieces) cells e

-- whatever is read are cells
pub cells_are_read : (most : ℕ) (bytes cells : List ℕ) → reading most bytes ≡ Ok cells → AreCells cells
cells_are_read most bytes cells e = All-from_recursion (λ c. c < 256) cells (cells_fit (parts bytes) cells (limited_is most (cells_reading (parts bytes)) cells e).0)
