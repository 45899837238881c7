-- Reading a cell mark by mark.
use Rattle.std.proofs.Common.{◌≡◌, ◌≢◌, ℕ, ◌+◌, ◌-◌, ◌*◌, ◌%◌, ◌^◌, ◌<◌, ◌≤◌, Bool, true, false, ◌||◌, eqb, List, [], ◌∷◌, ◌++◌, length, take, drop, get_or, Some, bit_and, bit_or, w8, refl, sym, ap, subst, ◌∙◌, inl, inr, arith}
use Rattle.std.proofs.lemmas.Grind.{common_steps}
use Rattle.std.specs.Int.{bit_at}
use Rattle.std.specs.Cmp.{first_so, second_so}
use Rattle.std.specs.List.{sum_by, list_all}
use Rattle.std.proofs.lemmas.Bool.{cases_eq}
use Rattle.std.proofs.lemmas.Bool.Decides.{Decides-eqb, nat_tests}
use Rattle.std.proofs.lemmas.List.Folds.{list_any-append, list_any_at}
use Rattle.std.proofs.lemmas.List.Sums.{sum_by-append}
use Rattle.std.proofs.lemmas.Nat.{or_disjoint}
use Rattle.std.proofs.lemmas.Nat.Bits.{bit_at_set_same, bit_at_set_other, bit_at-lt, and_pow}
use Rattle.brl_cells.specs.Dots.{dot_marks, dot_number, has_dot, is_among, first_fault}
use Rattle.brl_cells.specs.declared.fault.DotsFault.TheVariants.{BadDot, RepeatedDot}
use Rattle.std.proofs.lemmas.List.{take_more, drop_more}

-- a test that all these marks pass is passed by one of them
pub of_each : (test : ℕ → Bool) (marks : List ℕ) → list_all test marks ≡ true → (mark : ℕ) → is_among marks mark ≡ true → test mark ≡ true
of_each test [] all mark is = absurd cc
of_each test (m ∷ marks) all mark is =
    elim (cases_eq m mark) [
      | inl e ↦ ap test (sym e) ∙ first_so (test m) (list_all test marks) all
      | inr ne ↦ (let no : eqb m mark ≡ false = grind (arith, nat_tests) in of_each test marks (second_so (test m) (list_all test marks) all) mark (rw no at is))
    ]

-- a digit from 1 to 8
pub dot_bounds : (mark : ℕ) → is_among dot_marks mark ≡ true → (49 ≤ mark) × (mark < 57)
dot_bounds mark is = grind (arith, common_steps)

-- each dot mark is one
pub dot_at : (place : ℕ) → place < 8 → is_among dot_marks (get_or dot_marks place 0) ≡ true
dot_at place lt = list_any_at (λ m. eqb m (get_or dot_marks place 0)) dot_marks place 0 lt ((Decides-eqb (get_or dot_marks place 0) (get_or dot_marks place 0)).1 refl)

-- the number of a dot as `1 << place` computes it
pub dot_shifted : (mark : ℕ) → is_among dot_marks mark ≡ true → 1 * 2 ^ (mark - 49) % 256 ≡ dot_number mark
dot_shifted mark is = grind (arith, common_steps)

-- a cell has the dots of these marks, and no others
pub record HasDots (cell : ℕ) (marks : List ℕ) : Type 0 where
  pub sum : cell ≡ sum_by dot_number marks
  pub dots : (mark : ℕ) → is_among dot_marks mark ≡ true → has_dot cell mark ≡ is_among marks mark

-- the cell with one more dot
abbrev pub with_dot : ℕ → ℕ → ℕ
with_dot cell mark = bit_or cell (1 * 2 ^ (mark - 49) % 256)

not_set : (cell place : ℕ) → eqb (bit_at cell place) 1 ≡ false → bit_at cell place ≡ 0
not_set cell place unset = let lt : bit_at cell place < 2 = bit_at-lt cell place in grind (arith, nat_tests)

with_dot-sum : (cell mark : ℕ) → is_among dot_marks mark ≡ true → has_dot cell mark ≡ false → with_dot cell mark ≡ cell + dot_number mark
with_dot-sum cell mark is unset =
    let apart : bit_and cell (dot_number mark) ≡ 0 = and_pow cell (mark - 49) ∙ ap (λ (b : ℕ). b * dot_number mark) (not_set cell (mark - 49) unset) ∙ omega arith in
    ap (λ (n : ℕ). bit_or cell n) (dot_shifted mark is) ∙ or_disjoint cell (dot_number mark) apart

or-true : (a b : Bool) → b ≡ true → a || b ≡ true
or-true true b e = refl
or-true false b e = e

or-false : (a b : Bool) → b ≡ false → a ≡ a || b
or-false true b e = refl
or-false false b e = sym e

one_more : (cell mark other : ℕ) (before : List ℕ) → is_among dot_marks mark ≡ true → is_among dot_marks other ≡ true → has_dot cell other ≡ is_among before other
    → has_dot (with_dot cell mark) other ≡ (is_among before other || (eqb mark other || false))
one_more cell mark other before is is_other so_far =
    let bounds = dot_bounds mark is in
    let bounds_other = dot_bounds other is_other in
    elim (cases_eq mark other) [
      | inl e ↦ (let set : bit_at (with_dot cell mark) (other - 49) ≡ 1 = ap (λ (m : ℕ). bit_at (with_dot cell mark) (m - 49)) (sym e) ∙ bit_at_set_same w8 cell (mark - 49) (omega (arith, bounds)) in
          (Decides-eqb (bit_at (with_dot cell mark) (other - 49)) 1).1 set ∙ sym (or-true (is_among before other) (eqb mark other || false) (rw ((Decides-eqb mark other).1 e) refl)))
      | inr ne ↦ (let apart : other - 49 ≢ mark - 49 = (λ e. ne (omega (arith, bounds, bounds_other))) in
          let kept : has_dot (with_dot cell mark) other ≡ has_dot cell other = ap (λ (b : ℕ). eqb b 1) (bit_at_set_other w8 cell (mark - 49) (omega (arith, bounds)) (other - 49) apart) in
          let differ : eqb mark other ≡ false = grind (arith, nat_tests) in
          kept ∙ so_far ∙ or-false (is_among before other) (eqb mark other || false) (rw differ refl))
    ]

-- with a new dot, a cell has the dots of these marks and that one
pub dot_more : (cell mark : ℕ) (before : List ℕ) → is_among dot_marks mark ≡ true → has_dot cell mark ≡ false → HasDots cell before → HasDots (with_dot cell mark) (before ++ mark ∷ [])
dot_more cell mark before is unset has = record {
  sum = with_dot-sum cell mark is unset ∙ ap (λ (n : ℕ). n + dot_number mark) has.sum ∙ sym (sum_by-append dot_number before (mark ∷ []) ∙ omega arith);
  dots = λ other is_other. one_more cell mark other before is is_other (has.dots other is_other) ∙ sym (list_any-append (λ m. eqb m other) before (mark ∷ []));
}

-- ---- The first fault

-- a mark that is no dot decides
pub bad_dot : (before after : List ℕ) (mark : ℕ) → is_among dot_marks mark ≡ false → first_fault before (mark ∷ after) ≡ Some BadDot
bad_dot before after mark bad = rw bad refl

-- a dot that the cell has decides
pub repeated_dot : (before after : List ℕ) (mark : ℕ) → is_among dot_marks mark ≡ true → is_among before mark ≡ true → first_fault before (mark ∷ after) ≡ Some RepeatedDot
repeated_dot before after mark is again = rw (is, again) refl

-- after a new dot the fault is that of the marks that follow
pub no_fault : (before after : List ℕ) (mark : ℕ) → is_among dot_marks mark ≡ true → is_among before mark ≡ false → first_fault before (mark ∷ after) ≡ first_fault (before ++ mark ∷ []) after
no_fault before after mark is new = rw (is, new) refl

-- ---- The loop over the marks of a cell

-- the marks before this place are read, and the cell has their dots
pub record ReadSoFar (marks : List ℕ) (place cell : ℕ) : Type 0 where
  pub fault : first_fault (take place marks) (drop place marks) ≡ first_fault [] marks
  pub has : HasDots cell (take place marks)

pub read_none : (marks : List ℕ) → ReadSoFar marks 0 0
read_none marks = grind (arith, common_steps)

-- the first fault is that of the marks from this place on
from_here : (marks : List ℕ) (place cell : ℕ) → place < length marks → ReadSoFar marks place cell → first_fault [] marks ≡ first_fault (take place marks) (get_or marks place 0 ∷ drop (place + 1) marks)
from_here marks place cell lt so_far = sym so_far.fault ∙ ap (λ (rest : List ℕ). first_fault (take place marks) rest) (drop_more marks place 0 lt)

pub read_more : (marks : List ℕ) (place cell mark : ℕ) → place < length marks → mark ≡ get_or marks place 0 → is_among dot_marks mark ≡ true → has_dot cell mark ≡ false → ReadSoFar marks place cell → ReadSoFar marks (place + 1) (with_dot cell mark)
read_more marks place cell mark lt at is unset so_far =
    let before = take place marks in
    let more : take (place + 1) marks ≡ take place marks ++ mark ∷ [] = take_more marks place 0 lt ∙ ap (λ (m : ℕ). take place marks ++ m ∷ []) (sym at) in
    let new : is_among (take place marks) mark ≡ false = sym (so_far.has.dots mark is) ∙ unset in
    let here : first_fault [] marks ≡ first_fault (take place marks) (mark ∷ drop (place + 1) marks) = from_here marks place cell lt so_far ∙ ap (λ (m : ℕ). first_fault (take place marks) (m ∷ drop (place + 1) marks)) (sym at) in
    record {
      fault = ap (λ (ms : List ℕ). first_fault ms (drop (place + 1) marks)) more ∙ sym (no_fault (take place marks) (drop (place + 1) marks) mark is new) ∙ sym here;
      has = subst (λ (ms : List ℕ). HasDots (with_dot cell mark) ms) (sym more) (dot_more cell mark (take place marks) is unset so_far.has);
    }
