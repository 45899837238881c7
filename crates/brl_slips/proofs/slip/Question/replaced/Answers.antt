use Rattle.std.proofs.Common.{arith, ◌≡◌, ◌≢◌, ◌≤◌, ◌<◌, ℕ, List, get_or, length, refl, ap, subst, sym, ◌∙◌}
use Rattle.brl_slips.specs.Pieces.{cells_of}
use Rattle.brl_slips.specs.Searching.{Fits, exactly}
use Rattle.brl_slips.proofs.Found.{IsFitFound, none_replaced}
use Rattle.brl_slips.proofs.Missing.{found-replaced}
use Rattle.brl_slips.proofs.slip.Question.replaced.Goals as goal

pub returns-in_default : goal.returns-in_default
returns-in_default c =
    let pieces = c.args.self.text.pieces.now in
    let none = subst (IsFitFound pieces c.args.self.text.chars.now c.as_slice.result.now 1) c.in_default.is c.in_ok-found.ensures in
    none_replaced c.args.self (λ row spelling fits. none row spelling (subst (λ w. Fits w 1 (cells_of pieces row)) (sym (c.as_slice.ensures.value ∙ c.in_ok-wanted.ensures)) fits))

pub returns : goal.returns
returns c =
    let pieces = c.args.self.text.pieces.now in
    let cells = c.args.self.cells.now in
    let row = c.in-Some.spelling.items in
    let spelled = cells_of pieces row in
    let found = subst (IsFitFound pieces c.args.self.text.chars.now c.as_slice.result.now 1) c.in-Some.is c.in_ok-found.ensures in
    let place = c.differing_from-place.result in
    let is = c.differing_from-place.ensures in
    let same : c.as_slice-3.result.now ≡ spelled = c.as_slice-3.ensures.value ∙ (c.in_ok-spelled.ensures ∙ ap (cells_of pieces) c.as_slice-2.ensures.value) in (
      refl,
      record {
        spelling = found.0;
        differs = found-replaced cells spelled place (subst (λ w. Fits w 1 spelled) (c.as_slice.ensures.value ∙ c.in_ok-wanted.ensures) found.1) (c.requires.unspelled row 0 found.0 (omega arith)) is.within
            (subst (λ s. (k : ℕ) → 0 ≤ k → k < place → get_or cells k 0 ≡ get_or s k 0) same is.same)
            (subst (λ s. place < length cells → get_or cells place 0 ≢ get_or s place 0) same is.differs);
        enough = c.requires.question.four;
      },
    )
