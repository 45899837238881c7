-- Look-ups in a table, and the table of braille ASCII.
use Rattle.std.proofs.Common.{◌≡◌, ℕ, zero, suc, ◌+◌, add-zero, zero-add, ◌<◌, ◌≤◌, Bool, true, ◌&&◌, eqb, leb, ltb, List, [], ◌∷◌, Option, Some, None, Bor, get_or, refl, ap, sym, ◌∙◌, inl, inr, arith, option_copied, IsNone, ◌↔◌}
use Rattle.std.specs.Cmp.{first_so, second_so}
use Rattle.std.specs.List.{slice_get, position_or_len}
use Rattle.std.specs.Slice.{IsItemAt}
use Rattle.std.proofs.lemmas.Bool.{cases_lt}
use Rattle.std.proofs.lemmas.Bool.Decides.{Decides-eqb, nat_tests}
use Rattle.std.proofs.lemmas.Option.{slice_get-get_or, slice_get_past}
use Rattle.brl_cells.specs.Marks.{ascii_mark, braille_ascii}

-- what `get` lends is the element at the place
pub looked_up : (items : List ℕ) (place : ℕ) (found : Option (Bor ℕ)) → IsItemAt items place found → option_copied found ≡ slice_get items place
looked_up items place None is = sym (slice_get_past items place is.3)
looked_up items place (Some x) is = ap (λ (n : ℕ). Some n) is.1 ∙ sym (slice_get-get_or items place x.now is.3.0)

-- a test of each place and its element, counted from the given place
abbrev all_at : (ℕ → ℕ → Bool) → ℕ → List ℕ → Bool
all_at test first [] = true
all_at test first (item ∷ items) = test first item && all_at test (suc first) items

at_place : (test : ℕ → ℕ → Bool) (first : ℕ) (items : List ℕ) (place item : ℕ) → all_at test first items ≡ true → slice_get items place ≡ Some item → test (first + place) item ≡ true
at_place test first [] place item all is = absurd cc
at_place test first (x ∷ items) zero item all is = let same : x ≡ item = cc in rw (add-zero, ← same) (first_so (test first x) (all_at test (suc first) items) all)
at_place test first (x ∷ items) (suc place) item all is =
    let k : suc first + place ≡ first + suc place = omega arith in
    ap (λ (n : ℕ). test n item) (sym k) ∙ at_place test (suc first) items place item (second_so (test first x) (all_at test (suc first) items) all) is

-- each mark occurs nowhere before its place
stands_first : (cell mark : ℕ) → ascii_mark cell ≡ Some mark → position_or_len (λ m. eqb m mark) braille_ascii ≡ cell
unfolding ascii_mark
stands_first cell mark is = (Decides-eqb (position_or_len (λ m. eqb m mark) braille_ascii) (0 + cell)).0 (at_place (λ place item. eqb (position_or_len (λ m. eqb m item) braille_ascii) place) 0 braille_ascii cell mark refl is) ∙ zero-add cell

pub ascii_marks_differ : (left right mark : ℕ) → ascii_mark left ≡ Some mark → ascii_mark right ≡ Some mark → left ≡ right
ascii_marks_differ left right mark is_left is_right = sym (stands_first left mark is_left) ∙ stands_first right mark is_right

pub ascii_marks_range : (cell mark : ℕ) → ascii_mark cell ≡ Some mark → (32 ≤ mark) × (mark < 96)
unfolding ascii_mark
ascii_marks_range cell mark is =
    let within : leb 32 mark && ltb mark 96 ≡ true = at_place (λ place item. leb 32 item && ltb item 96) 0 braille_ascii cell mark refl is in
    let low : leb 32 mark ≡ true = first_so (leb 32 mark) (ltb mark 96) within in
    let high : ltb mark 96 ≡ true = second_so (leb 32 mark) (ltb mark 96) within in
    (grind (arith, nat_tests), grind (arith, nat_tests))

-- exactly the cells with dot 7 or 8 have no mark
pub unmarked : (cell : ℕ) (mark : Option ℕ) → mark ≡ ascii_mark cell → IsNone mark ↔ (64 ≤ cell)
unfolding ascii_mark
unmarked cell None is = (
  (λ _. elim (cases_lt cell 64) [
    | inl lt ↦ absurd (let some : ascii_mark cell ≡ Some (get_or braille_ascii cell 0) = slice_get-get_or braille_ascii cell 0 lt in cc)
    | inr ge ↦ ge
  ]),
  (λ _. refl),
)
unmarked cell (Some m) is = ((λ (h : IsNone (Some m)). absurd cc), (λ le. absurd (let none : ascii_mark cell ≡ None = slice_get_past braille_ascii cell le in cc)))
