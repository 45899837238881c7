-- Reading cells, one after the other.
use Rattle.std.proofs.Common.{◌≡◌, ℕ, suc, ◌+◌, ◌<◌, ◌≤◌, leb, eqb, cond, true, false, List, [], ◌∷◌, ◌++◌, length, drop, get_or, Result, Ok, Err, append_assoc, refl, sym, ap, subst, ◌∙◌, inl, inr, arith, drop_of_length-le, MatchResult, IsErrAnd}
use Rattle.std.proofs.lemmas.Bool.Decides.{nat_tests}
use Rattle.std.proofs.lemmas.List.{append-nil, drop_more}
use Rattle.std.proofs.lemmas.Bool.{cases_lt}
use Rattle.std.proofs.lemmas.List.Splits.{length-slice_split}
use Rattle.brl_cells.specs.declared.fault.DotsFault.{DotsFault}
use Rattle.brl_cells.specs.declared.fault.DotsFault.TheVariants.{TooManyCells}
use Rattle.brl_cells.specs.Dots.{cell_reading, cells_reading, parts, reading}
use Rattle.brl_failure.specs.Failure.{◌>>=◌, IfFault}
use Rattle.brl_failure.specs.declared.failure.Failure.{Failure}
use Rattle.brl_failure.specs.declared.failure.Failure.TheVariants as failures

-- a cell before the cells of other parts
abbrev pub before_cells : Result ℕ DotsFault → Result (List ℕ) DotsFault → Result (List ℕ) DotsFault
before_cells first rest = do
  cell ← first
  cells ← rest
  Ok (cell ∷ cells)

-- the cells, if they are not too many
abbrev pub limited : ℕ → Result (List ℕ) DotsFault → Result (List ℕ) DotsFault
limited most read = do
  cells ← read
  cond (leb (length cells) most) (Ok cells) (Err TooManyCells)

-- these cells, before those that are read
abbrev pub behind : List ℕ → Result (List ℕ) DotsFault → Result (List ℕ) DotsFault
behind front (Ok cells) = Ok (front ++ cells)
behind front (Err fault) = Err fault

behind-push : (front : List ℕ) (cell : ℕ) (read : Result (List ℕ) DotsFault) → behind front (before_cells (Ok cell) read) ≡ behind (front ++ cell ∷ []) read
behind-push front cell (Ok cells) = ap (λ (cs : List ℕ). Ok cs) (sym (append_assoc front (cell ∷ []) cells))
behind-push front cell (Err fault) = refl

-- the cells of the parts before this place are read
pub record PartsSoFar (pieces : List (List ℕ)) (place : ℕ) (front : List ℕ) : Type 0 where
  pub rest : behind front (cells_reading (drop place pieces)) ≡ cells_reading pieces

module _ (pieces : List (List ℕ)) (place : ℕ) (front piece : List ℕ) (lt : place < length pieces) (at : piece ≡ get_or pieces place piece) (so_far : PartsSoFar pieces place front) where
  from_here : cells_reading pieces ≡ behind front (before_cells (cell_reading piece) (cells_reading (drop (place + 1) pieces)))
  from_here = sym so_far.rest ∙ ap (λ (ps : List (List ℕ)). behind front (cells_reading ps)) (drop_more pieces place piece lt) ∙ ap (λ (p : List ℕ). behind front (before_cells (cell_reading p) (cells_reading (drop (place + 1) pieces)))) (sym at)

  pub parts_more : (cell : ℕ) → Ok cell ≡ cell_reading piece → PartsSoFar pieces (place + 1) (front ++ cell ∷ [])
  parts_more cell is = record {
    rest = sym (behind-push front cell (cells_reading (drop (place + 1) pieces))) ∙ ap (λ (r : Result ℕ DotsFault). behind front (before_cells r (cells_reading (drop (place + 1) pieces)))) is ∙ sym from_here;
  }

  pub parts_fault : (fault : DotsFault) → Err fault ≡ cell_reading piece → cells_reading pieces ≡ Err fault
  parts_fault fault is = from_here ∙ ap (λ (r : Result ℕ DotsFault). behind front (before_cells r (cells_reading (drop (place + 1) pieces)))) (sym is)

pub parts_all : (pieces : List (List ℕ)) (place : ℕ) (front : List ℕ) → length pieces ≤ place → PartsSoFar pieces place front → cells_reading pieces ≡ Ok front
parts_all pieces place front le so_far =
    let none : drop place pieces ≡ [] = drop_of_length-le pieces le in
    sym so_far.rest ∙ ap (λ (ps : List (List ℕ)). behind front (cells_reading ps)) none ∙ ap (λ (cs : List ℕ). Ok cs) (append-nil front)

-- ---- The reading of a part, as a step that may fail

pub step_ok : (read : Result ℕ DotsFault) (step : Result ℕ (Failure DotsFault)) (cell : ℕ) → MatchResult read (λ y. step ≡ Ok y) (λ e. IsErrAnd step (λ f. f ≡ failures.Fault e)) → step ≡ Ok cell → Ok cell ≡ read
step_ok (Ok y) step cell h e = cc
step_ok (Err d) (Ok y) cell h e = absurd h
step_ok (Err d) (Err f) cell h e = absurd cc

pub step_fault : (read : Result ℕ DotsFault) (step : Result ℕ (Failure DotsFault)) (failure : Failure DotsFault) (whole : Result (List ℕ) DotsFault)
    → MatchResult read (λ y. step ≡ Ok y) (λ e. IsErrAnd step (λ f. f ≡ failures.Fault e)) → step ≡ Err failure → ((fault : DotsFault) → Err fault ≡ read → whole ≡ Err fault) → IfFault (λ fault. whole ≡ Err fault) failure
step_fault (Ok y) step failure whole h e decides = absurd cc
step_fault (Err d) (Ok y) failure whole h e decides = absurd h
step_fault (Err d) (Err f) failure whole h e decides =
    let same : failures.Fault d ≡ failure = (let is : f ≡ failure = cc in sym h ∙ is) in
    subst (IfFault (λ fault. whole ≡ Err fault)) same (decides d refl)

-- ---- The limit

pub reading_fault : (most : ℕ) (bytes : List ℕ) (fault : DotsFault) → cells_reading (parts bytes) ≡ Err fault → reading most bytes ≡ Err fault
reading_fault most bytes fault is = ap (limited most) is

pub reading_too_many : (most : ℕ) (bytes cells : List ℕ) → most < length cells → cells_reading (parts bytes) ≡ Ok cells → reading most bytes ≡ Err TooManyCells
reading_too_many most bytes cells lt is = ap (limited most) is ∙ (let over : leb (length cells) most ≡ false = grind (arith, nat_tests) in rw over refl)

pub reading_is : (most : ℕ) (bytes cells : List ℕ) → length cells ≤ most → cells_reading (parts bytes) ≡ Ok cells → reading most bytes ≡ Ok cells
reading_is most bytes cells le is = ap (limited most) is ∙ (let within : leb (length cells) most ≡ true = grind (arith, nat_tests) in rw within refl)

-- whatever is read is not empty, and within the limit
some_parts : (bytes : List ℕ) → 0 < length (parts bytes)
some_parts bytes = omega (arith, length-slice_split (λ m. eqb m 45) bytes)

length-before_cells : (n : ℕ) (first : Result ℕ DotsFault) (rest : Result (List ℕ) DotsFault) → ((others : List ℕ) → rest ≡ Ok others → length others ≡ n) → (cells : List ℕ) → before_cells first rest ≡ Ok cells → length cells ≡ suc n
length-before_cells n (Err fault) rest same cells e = absurd cc
length-before_cells n (Ok cell) (Err fault) same cells e = absurd cc
length-before_cells n (Ok cell) (Ok others) same cells e = let all : cells ≡ cell ∷ others = cc in ap length all ∙ ap (λ (k : ℕ). suc k) (same others refl)

length-cells_reading : (pieces : List (List ℕ)) (cells : List ℕ) → cells_reading pieces ≡ Ok cells → length cells ≡ length pieces
length-cells_reading [] cells e = let none : cells ≡ [] = cc in ap length none
length-cells_reading (piece ∷ pieces) cells e = length-before_cells (length pieces) (cell_reading piece) (cells_reading pieces) (length-cells_reading pieces) cells e

pub parts_some : (bytes cells : List ℕ) → cells_reading (parts bytes) ≡ Ok cells → 1 ≤ length cells
parts_some bytes cells e = omega (arith, some_parts bytes, length-cells_reading (parts bytes) cells e)

pub limited_is : (most : ℕ) (read : Result (List ℕ) DotsFault) (cells : List ℕ) → limited most read ≡ Ok cells → (read ≡ Ok cells) × (length cells ≤ most)
limited_is most (Err fault) cells e = absurd cc
limited_is most (Ok found) cells e =
    elim (cases_lt most (length found)) [
      | inl lt ↦ absurd (let over : leb (length found) most ≡ false = grind (arith, nat_tests) in let wrong : Err TooManyCells ≡ Ok cells = rw over at e in cc)
      | inr le ↦ (let within : leb (length found) most ≡ true = grind (arith, nat_tests) in let same : Ok found ≡ Ok cells = rw within at e in let one : found ≡ cells = cc in (same, subst (λ (cs : List ℕ). length cs ≤ most) one le))
    ]
