-- Internal. What the search for a spelling keeps.
use Rattle.std.specs.Prelude.{ℕ, ◌≡◌, ◌≤◌, ◌<◌, ◌+◌, ◌*◌, All, Bool, true, false, not, List, [], ◌++◌, drop, take, length, map, nat_eq, slice_get, slice_index, Option, None, Some}
use Rattle.std.specs.Global.{Vec}
use Rattle.std.specs.List.{Contains, count_by, zip}
use Rattle.std.specs.Option.{option_map_or}
use Rattle.std.specs.Cmp.Lexicographic.{pointwise}
use Rattle.indexmap.specs.IndexMap.{IndexMap, get_by}
use Rattle.brl_slips.specs.Pieces.{IsPieceOf, cells_at, cells_of, chars_at, chars_of}
use Rattle.brl_slips.specs.declared.lexicon.Piece.{Piece}
use Rattle.brl_slips.specs.declared.spelling.State.{State}
use Rattle.brl_slips.specs.declared.starts.Index.{Index}

-- whether a cell isn't the one that is wanted; any cell is where none is named
abbrev pub is_miss : Option ℕ → ℕ → Bool
is_miss None cell = false
is_miss (Some want) cell = not (nat_eq want cell)

-- at how many places cells aren't those that are wanted, up to the end of the shorter ones
abbrev pub misses_in : List (Option ℕ) → List ℕ → ℕ
misses_in wanted cells = count_by (λ pair. is_miss pair.0 pair.1) (zip wanted cells)

-- just these cells, as they are wanted
abbrev pub exactly : List ℕ → List (Option ℕ)
exactly cells = map Some cells

-- cells are as many as are wanted, and miss at most a number of them
pub record Fits (wanted : List (Option ℕ)) (misses : ℕ) (cells : List ℕ) : Type 0 where
  pub as_many : length cells ≡ length wanted
  pub few : misses_in wanted cells ≤ misses

-- a piece may stand in a spelling of a text at a place
pub record IsPieceAt (pieces : List Piece) (text : List ℕ) (place number : ℕ) : Type 0 where
  pub piece : IsPieceOf pieces text number
  pub stands : take (length (chars_at pieces number)) (drop place text) ≡ chars_at pieces number

-- the numbers at a place
abbrev pub numbers_at : List (Vec ℕ) → ℕ → List ℕ
numbers_at starts place = option_map_or (λ numbers. numbers.items) (slice_get starts place) []

-- for each place of a text these are the pieces that may stand there
pub record AreStarts (pieces : List Piece) (text : List ℕ) (starts : List (Vec ℕ)) : Type 0 where
  pub count : length starts ≡ length text
  pub sound : (place : ℕ) → All (IsPieceAt pieces text place) (numbers_at starts place)
  pub whole : (place number : ℕ) → place < length text → IsPieceAt pieces text place number → Contains (numbers_at starts place) number

-- pieces in a row make up a text from a place on, with the wanted cells from a place on, but for at
-- most a number of misses
pub record Completes (pieces : List Piece) (text : List ℕ) (wanted : List (Option ℕ)) (character cell misses : ℕ) (row : List ℕ) : Type 0 where
  pub each : All (IsPieceOf pieces text) row
  pub rest : chars_of pieces row ≡ drop character text
  pub fit : Fits (drop cell wanted) misses (cells_of pieces row)

-- no row does
abbrev pub IsDead : List Piece → List ℕ → List (Option ℕ) → ℕ → ℕ → ℕ → Type 0
IsDead pieces text wanted character cell misses = (row : List ℕ) → Completes pieces text wanted character cell misses row → ⊥

-- what is known of the places is so: no row completes with fewer misses than are noted
abbrev pub IsKnown : List Piece → List ℕ → List (Option ℕ) → List ℕ → Type 0
IsKnown pieces text wanted dead =
    (character cell misses : ℕ) → cell < 32 → misses < slice_index dead (character * 32 + cell) → IsDead pieces text wanted character cell misses

-- whether a row was completed: then it was, and else none can be, and the row is as it was
abbrev pub IsCompleted : List Piece → List ℕ → List (Option ℕ) → ℕ → ℕ → ℕ → List ℕ → List ℕ → Bool → Type 0
IsCompleted pieces text wanted character cell misses old new true = (more : List ℕ) × (new ≡ old ++ more) × Completes pieces text wanted character cell misses more
IsCompleted pieces text wanted character cell misses old new false = (new ≡ old) × IsDead pieces text wanted character cell misses

-- the state after a piece
pub record IsAfter (pieces : List Piece) (wanted : List (Option ℕ)) (state : State) (number : ℕ) (next : State) : Type 0 where
  pub character : next.character ≡ state.character + length (chars_at pieces number)
  pub cell : next.cell ≡ state.cell + length (cells_at pieces number)
  pub within : next.cell ≤ length wanted
  pub misses : misses_in (drop state.cell wanted) (cells_at pieces number) + next.misses ≡ state.misses

-- ---- The index of pieces

-- the numbers that an index has for some characters
abbrev pub numbers_of : {S : Type 0} → IndexMap (Vec ℕ) (Vec ℕ) S → List ℕ → List ℕ
numbers_of numbers chars = option_map_or (λ found. found.items) (get_by (λ key. pointwise nat_eq chars key.items) numbers) []

-- a number is that of one of the first pieces, which has these characters
abbrev pub IsNumberOf : List Piece → ℕ → List ℕ → ℕ → Type 0
IsNumberOf pieces end chars number = (number < end) × (chars_at pieces number ≡ chars)

-- an index has the numbers of the first pieces, by their characters
pub record AreNumbered {S : Type 0} (pieces : List Piece) (end : ℕ) (numbers : IndexMap (Vec ℕ) (Vec ℕ) S) : Type 0 where
  pub sound : (chars : List ℕ) → All (IsNumberOf pieces end chars) (numbers_of numbers chars)
  pub whole : (number : ℕ) → number < end → Contains (numbers_of numbers (chars_at pieces number)) number

-- an index has the numbers of all pieces, and no piece has more characters than its `longest`
pub record IsIndex (pieces : List Piece) (index : Index) : Type 0 where
  pub numbered : AreNumbered pieces (length pieces) index.numbers
  pub longest : (number : ℕ) → length (chars_at pieces number) ≤ index.longest

-- these are the pieces that may stand in a spelling of a text at a place
pub record AreAt (pieces : List Piece) (text : List ℕ) (place : ℕ) (numbers : List ℕ) : Type 0 where
  pub sound : All (IsPieceAt pieces text place) numbers
  pub whole : (number : ℕ) → IsPieceAt pieces text place number → Contains numbers number
