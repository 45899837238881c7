-- Slips: rules whose cells are those of a spelling of their characters but for one or two. The
-- project's own.
use Rattle.std.specs.Prelude.{ℕ, ◌≡◌, ◌≢◌, ◌≤◌, ◌<◌, ◌+◌, All, true, List, drop, length, map, slice_get, slice_index, slice_index_or, slice_set, Option, Some}
use Rattle.std.specs.List.{Contains, remove, swap}
use Rattle.std.specs.Option.{option_and_then}
use Rattle.brl_slips.specs.Letters.{may_be_slip}
use Rattle.brl_slips.specs.Pieces.{IsSpelling, cells_of}
use Rattle.brl_slips.specs.declared.fault.Fault.{Fault}
use Rattle.brl_slips.specs.declared.fault.Fault.TheVariants.{Exchanged, Missing, Replaced, TooMany, TwoReplaced}
use Rattle.brl_slips.specs.declared.lexicon.Entry.{Entry}
use Rattle.brl_slips.specs.declared.lexicon.Lexicon.{Lexicon}
use Rattle.brl_slips.specs.declared.lexicon.Piece.{Piece}
use Rattle.brl_slips.specs.declared.slip.Slip.{Slip}

-- ---- The five kinds

-- How the cells of a rule differ from those of a spelling: one cell is replaced; two
-- neighbours are exchanged; one that isn't the first is too many; one is missing; or two are
-- replaced.
abbrev pub IsFault : Fault → List ℕ → List ℕ → Type 0
IsFault (Replaced place) cells spelled =
    (place < length cells) × (slice_index cells place ≢ slice_index spelled place) × (spelled ≡ slice_set cells place (slice_index spelled place))
IsFault (Exchanged place) cells spelled = (place + 1 < length cells) × (spelled ≡ swap cells place (place + 1))
IsFault (TooMany place) cells spelled = (1 ≤ place) × (place < length cells) × (spelled ≡ remove cells place)
IsFault (Missing place) cells spelled = (place < length spelled) × (cells ≡ remove spelled place)
IsFault (TwoReplaced first second) cells spelled =
    (first < second) × (second < length cells) × (slice_index cells first ≢ slice_index spelled first) × (slice_index cells second ≢ slice_index spelled second)
    × (spelled ≡ slice_set (slice_set cells first (slice_index spelled first)) second (slice_index spelled second))

-- the place of a kind among the five: the first that holds counts
abbrev pub rank : Fault → ℕ
rank (Replaced place) = 0
rank (Exchanged place) = 1
rank (TooMany place) = 2
rank (Missing place) = 3
rank (TwoReplaced first second) = 4

-- how many cells a rule has at least where a kind counts
abbrev pub least_cells : Fault → ℕ
least_cells (Replaced place) = 4
least_cells (Exchanged place) = 4
least_cells (TooMany place) = 5
least_cells (Missing place) = 5
least_cells (TwoReplaced first second) = 7

-- ---- Slips

-- no spelling of a text has these cells, also not without the first of them or the first two: a
-- sign may stand before a word that is spelled
abbrev pub IsUnspelled : List Piece → List ℕ → List ℕ → Type 0
IsUnspelled pieces text cells = (row : List ℕ) (signs : ℕ) → IsSpelling pieces text row → signs < 3 → cells_of pieces row ≢ drop signs cells

-- the cells are those of a spelling of the text but for a fault that counts
pub record IsLike (pieces : List Piece) (text cells : List ℕ) (fault : Fault) (row : List ℕ) : Type 0 where
  pub spelling : IsSpelling pieces text row
  pub differs : IsFault fault cells (cells_of pieces row)
  pub enough : least_cells fault ≤ length cells

-- a rule of these characters and cells is a slip by a fault: it is like a spelling, and no spelling
-- has its cells; and it is like none by an earlier kind
pub record IsSlipBy (pieces : List Piece) (text cells : List ℕ) (fault : Fault) (row : List ℕ) : Type 0 where
  pub like : IsLike pieces text cells fault row
  pub unspelled : IsUnspelled pieces text cells
  pub first : (other : Fault) (others : List ℕ) → rank other < rank fault → IsLike pieces text cells other others → ⊥

-- ---- The slips of a table

-- the piece that the rule with a number gives
abbrev pub piece_of : Lexicon → ℕ → Option Piece
piece_of lexicon entry = option_and_then (λ (rule : Entry). slice_get lexicon.pieces.items rule.piece) (slice_get lexicon.entries.items entry)

-- the rule with a number is a slip by a fault, beside a spelling
pub record IsSlipOf (lexicon : Lexicon) (entry : ℕ) (fault : Fault) (row : List ℕ) : Type 0 where
  pub piece : Piece
  pub rule : piece_of lexicon entry ≡ Some piece
  pub may : may_be_slip lexicon.alphabet piece ≡ true
  pub by : IsSlipBy lexicon.pieces.items piece.chars piece.cells fault row

-- what is shown is a slip
abbrev pub IsShownSlip : Lexicon → Slip → Type 0
IsShownSlip lexicon slip = IsSlipOf lexicon slip.entry slip.fault slip.spelling.items

-- these are the slips among the first rules, each once, in the order of the table
pub record AreSlips (lexicon : Lexicon) (end : ℕ) (slips : List Slip) : Type 0 where
  pub each : All (IsShownSlip lexicon) slips
  pub within : All (λ slip. slip.entry < end) slips
  pub ascending : (k l : ℕ) (d : Slip) → k < l → l < length slips → (slice_index_or slips k d).entry < (slice_index_or slips l d).entry
  pub whole : (entry : ℕ) (fault : Fault) (row : List ℕ) → entry < end → IsSlipOf lexicon entry fault row → Contains (map (λ slip. slip.entry) slips) entry
