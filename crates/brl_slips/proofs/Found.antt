-- What a search for a kind finds, for the kinds from one on.
use Rattle.std.proofs.Common.{◌≡◌, ◌≢◌, ◌≤◌, ◌<◌, ◌+◌, ℕ, List, Option, Some, None, Result, Ok, Err, refl, sym, ap, subst, ◌∙◌, arith, length, inl, inr}
use Rattle.std.specs.Global.{Vec}
use Rattle.std.specs.Prelude.{IfOk, MatchOption}
use Rattle.std.specs.declared.alloc.AllocError.{AllocError}
use Rattle.brl_slips.specs.Pieces.{IsSpelling, cells_of}
use Rattle.brl_slips.specs.Searching.{Fits, exactly}
use Rattle.brl_slips.specs.Slips.{rank}
use Rattle.brl_slips.specs.Finding.{HasNone, IsFoundFrom, IsLikeBy, IsSpelledAs}
use Rattle.brl_slips.specs.declared.fault.Fault.{Fault}
use Rattle.brl_slips.specs.declared.fault.Fault.TheVariants.{Exchanged, Missing, Replaced, TooMany, TwoReplaced}
use Rattle.brl_slips.specs.declared.lexicon.Piece.{Piece}
use Rattle.brl_slips.specs.declared.slip.Likeness.{Likeness}
use Rattle.brl_slips.specs.declared.slip.Question.{Question}
use Rattle.std.proofs.lemmas.Bool.{cases_eq}
use Rattle.std.proofs.lemmas.List.Edits.{length-remove}
use Rattle.brl_slips.proofs.Missing.{exact-fits, fits-exact, replaced-fits}

-- what is found for wanted cells, or isn't there
abbrev pub IsFitFound : List Piece → List ℕ → List (Option ℕ) → ℕ → Option (Vec ℕ) → Type 0
IsFitFound pieces text wanted misses found = MatchOption found
    ((row : List ℕ) → IsSpelling pieces text row → Fits wanted misses (cells_of pieces row) → ⊥)
    (λ row. IsSpelling pieces text row.items × Fits wanted misses (cells_of pieces row.items))

-- just these cells
pub spelled_as : (pieces : List Piece) (text cells : List ℕ) (wanted : List (Option ℕ)) (result : Result (Option (Vec ℕ)) AllocError) → wanted ≡ exactly cells
    → IfOk result (IsFitFound pieces text wanted 0) → IfOk result (IsSpelledAs pieces text cells)
spelled_as pieces text cells wanted (Ok None) same none = λ row spelling is.
    none row spelling (subst (λ w. Fits w 0 (cells_of pieces row)) (sym same) (exact-fits cells (cells_of pieces row) is))
spelled_as pieces text cells wanted (Ok (Some row)) same found =
    (found.0, fits-exact cells (cells_of pieces row.items) (subst (λ w. Fits w 0 (cells_of pieces row.items)) same found.1))
spelled_as pieces text cells wanted (Err e) same found = tt

-- where there is none of a kind, what is found from the next one on is so from it on
pub from_next : (question : Question) (kind : ℕ) (result : Result (Option Likeness) AllocError) → HasNone question kind
    → IfOk result (IsFoundFrom question (kind + 1)) → IfOk result (IsFoundFrom question kind)
from_next question kind (Ok None) none found = λ fault row from like.
    elim (cases_eq (rank fault) kind) [
      | inl same ↦ none fault row same like
      | inr other ↦ found fault row (omega (arith, from, other)) like
    ]
from_next question kind (Ok (Some likeness)) none found = (
  omega (arith, found.0),
  found.1,
  λ other row from earlier like. elim (cases_eq (rank other) kind) [
    | inl same ↦ none other row same like
    | inr not ↦ found.2 other row (omega (arith, from, not)) earlier like
  ],
)
from_next question kind (Err e) none found = tt

-- each kind by its places
pub none_exchanged : (question : Question) → ((p : ℕ) → p + 1 < length question.cells.now → (row : List ℕ) → IsLikeBy question (Exchanged p) row → ⊥) → HasNone question 1
none_exchanged question none (Replaced p) row is like = omega (arith, is)
none_exchanged question none (Exchanged p) row is like = none p like.differs.0 row like
none_exchanged question none (TooMany p) row is like = omega (arith, is)
none_exchanged question none (Missing p) row is like = omega (arith, is)
none_exchanged question none (TwoReplaced p q) row is like = omega (arith, is)

pub none_missing : (question : Question) → ((p : ℕ) → p ≤ length question.cells.now → (row : List ℕ) → IsLikeBy question (Missing p) row → ⊥) → HasNone question 3
none_missing question none (Replaced p) row is like = omega (arith, is)
none_missing question none (Exchanged p) row is like = omega (arith, is)
none_missing question none (TooMany p) row is like = omega (arith, is)
none_missing question none (Missing p) row is like =
    none p (omega (arith, like.differs.0, ap length like.differs.1, length-remove (cells_of question.text.pieces.now row) p like.differs.0)) row like
none_missing question none (TwoReplaced p q) row is like = omega (arith, is)

pub none_replaced : (question : Question) → ((row : List ℕ) → IsSpelling question.text.pieces.now question.text.chars.now row → Fits (exactly question.cells.now) 1 (cells_of question.text.pieces.now row) → ⊥) → HasNone question 0
none_replaced question none (Replaced p) row is like = none row like.spelling (replaced-fits question.cells.now (cells_of question.text.pieces.now row) p like.differs)
none_replaced question none (Exchanged p) row is like = omega (arith, is)
none_replaced question none (TooMany p) row is like = omega (arith, is)
none_replaced question none (Missing p) row is like = omega (arith, is)
none_replaced question none (TwoReplaced p q) row is like = omega (arith, is)

-- few cells have none of the later kinds
pub few_cells : (question : Question) (kind : ℕ) → 2 ≤ kind → length question.cells.now < 5 → (fault : Fault) (row : List ℕ) → kind ≤ rank fault → IsLikeBy question fault row → ⊥
few_cells question kind from few (Replaced p) row is like = omega (arith, is, from)
few_cells question kind from few (Exchanged p) row is like = omega (arith, is, from)
few_cells question kind from few (TooMany p) row is like = omega (arith, like.enough, few)
few_cells question kind from few (Missing p) row is like = omega (arith, like.enough, few)
few_cells question kind from few (TwoReplaced p q) row is like = omega (arith, like.enough, few)

-- only two replaced cells are of the last kind
pub last_kind : (question : Question) → ((p q : ℕ) (row : List ℕ) → IsLikeBy question (TwoReplaced p q) row → ⊥) → (fault : Fault) (row : List ℕ) → 4 ≤ rank fault → IsLikeBy question fault row → ⊥
last_kind question none (Replaced p) row is like = omega (arith, is)
last_kind question none (Exchanged p) row is like = omega (arith, is)
last_kind question none (TooMany p) row is like = omega (arith, is)
last_kind question none (Missing p) row is like = omega (arith, is)
last_kind question none (TwoReplaced p q) row is like = none p q row like
