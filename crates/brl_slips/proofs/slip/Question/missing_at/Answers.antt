use Rattle.std.proofs.Common.{◌≡◌, List, Option, None, refl, ap, subst, sym, ◌∙◌}
use Rattle.std.specs.List.{insert}
use Rattle.brl_slips.specs.Pieces.{cells_of}
use Rattle.brl_slips.specs.Searching.{Fits, exactly}
use Rattle.brl_slips.proofs.Found.{IsFitFound}
use Rattle.brl_slips.proofs.Missing.{fits-gap, gap-fits}
use Rattle.brl_slips.proofs.slip.Question.missing_at.Goals as goal

pub returns-in_default : goal.returns-in_default
returns-in_default c row like =
    let pieces = c.args.self.text.pieces.now in
    let text = c.args.self.text.chars.now in
    let cells = c.args.self.cells.now in
    let place = c.args.place in
    let wanted = c.as_slice.result.now in
    let same : wanted ≡ insert (exactly cells) place None = c.as_slice.ensures.value ∙ c.in_ok-insert.ensures.items ∙ ap (λ w. insert w place None) c.in_ok-wanted.ensures in
    subst (IsFitFound pieces text wanted 0) c.in_default.is c.in_ok-found.ensures row like.spelling
    (subst (λ w. Fits w 0 (cells_of pieces row)) (sym same) (gap-fits cells (cells_of pieces row) place like.differs))

pub returns : goal.returns
returns c =
    let pieces = c.args.self.text.pieces.now in
    let text = c.args.self.text.chars.now in
    let cells = c.args.self.cells.now in
    let place = c.args.place in
    let wanted = c.as_slice.result.now in
    let same : wanted ≡ insert (exactly cells) place None = c.as_slice.ensures.value ∙ c.in_ok-insert.ensures.items ∙ ap (λ w. insert w place None) c.in_ok-wanted.ensures in
    let found = subst (IsFitFound pieces text wanted 0) c.in-Some.is c.in_ok-found.ensures in (
      refl,
      record {
        spelling = found.0;
        differs = fits-gap cells (cells_of pieces c.in-Some.spelling.items) place c.requires.within (subst (λ w. Fits w 0 (cells_of pieces c.in-Some.spelling.items)) same found.1);
        enough = c.requires.five;
      },
    )
