-- Internal. What the search for a rule's kind keeps, and what it finds.
use Rattle.std.specs.Prelude.{ℕ, ◌≡◌, ◌≤◌, ◌<◌, List, length, MatchOption, Option}
use Rattle.std.specs.Global.{Vec}
use Rattle.brl_slips.specs.Pieces.{IsSpelling, cells_of}
use Rattle.brl_slips.specs.Searching.{AreStarts}
use Rattle.brl_slips.specs.Slips.{IsLike, IsShownSlip, IsSlipOf, rank}
use Rattle.brl_slips.specs.declared.fault.Fault.{Fault}
use Rattle.brl_slips.specs.declared.lexicon.Lexicon.{Lexicon}
use Rattle.brl_slips.specs.declared.lexicon.Piece.{Piece}
use Rattle.brl_slips.specs.declared.slip.Likeness.{Likeness}
use Rattle.brl_slips.specs.declared.slip.Question.{Question}
use Rattle.brl_slips.specs.declared.slip.Slip.{Slip}

-- a question has the pieces at each place of its text, 32 characters at most, and 4 to 16 cells
pub record IsQuestion (question : Question) : Type 0 where
  pub starts : AreStarts question.text.pieces.now question.text.chars.now question.text.starts.now
  pub short : length question.text.chars.now ≤ 32
  pub four : 4 ≤ length question.cells.now
  pub few : length question.cells.now ≤ 16

-- the rule of a question is like a spelling but for a fault
abbrev pub IsLikeBy : Question → Fault → List ℕ → Type 0
IsLikeBy question fault row = IsLike question.text.pieces.now question.text.chars.now question.cells.now fault row

-- it is so by no fault of a kind
abbrev pub HasNone : Question → ℕ → Type 0
HasNone question kind = (fault : Fault) (row : List ℕ) → rank fault ≡ kind → IsLikeBy question fault row → ⊥

-- a spelling has just these cells, or none has
abbrev pub IsSpelledAs : List Piece → List ℕ → List ℕ → Option (Vec ℕ) → Type 0
IsSpelledAs pieces text cells found = MatchOption found
    ((row : List ℕ) → IsSpelling pieces text row → cells_of pieces row ≡ cells → ⊥)
    (λ row. IsSpelling pieces text row.items × (cells_of pieces row.items ≡ cells))

-- a fault of a kind was found, or there is none
abbrev pub IsKindFound : Question → ℕ → Option Likeness → Type 0
IsKindFound question kind found = MatchOption found (HasNone question kind) (λ likeness. (rank likeness.fault ≡ kind) × IsLikeBy question likeness.fault likeness.spelling.items)

-- this fault was found, or isn't there
abbrev pub IsKindFoundAt : Question → Fault → Option Likeness → Type 0
IsKindFoundAt question fault found = MatchOption found
    ((row : List ℕ) → IsLikeBy question fault row → ⊥)
    (λ likeness. (likeness.fault ≡ fault) × IsLikeBy question fault likeness.spelling.items)

-- a fault was found that is the first from a kind on; or there is none from that on
abbrev pub IsFoundFrom : Question → ℕ → Option Likeness → Type 0
IsFoundFrom question kind found = MatchOption found
    ((fault : Fault) (row : List ℕ) → kind ≤ rank fault → IsLikeBy question fault row → ⊥)
    (λ likeness. (kind ≤ rank likeness.fault) × IsLikeBy question likeness.fault likeness.spelling.items
    × ((other : Fault) (row : List ℕ) → kind ≤ rank other → rank other < rank likeness.fault → IsLikeBy question other row → ⊥))

-- the slip that a rule is was found, or it is none
abbrev pub IsSlipFound : Lexicon → ℕ → Option Slip → Type 0
IsSlipFound lexicon entry found = MatchOption found
    ((fault : Fault) (row : List ℕ) → IsSlipOf lexicon entry fault row → ⊥)
    (λ slip. (slip.entry ≡ entry) × IsShownSlip lexicon slip)
