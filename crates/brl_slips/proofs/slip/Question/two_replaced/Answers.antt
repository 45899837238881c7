use Rattle.std.proofs.Common.{◌≡◌, ◌≢◌, ◌≤◌, ◌<◌, ◌+◌, ℕ, List, arith, get_or, length, refl, ap, subst, sym, ◌∙◌}
use Rattle.std.proofs.lemmas.List.{length-map}
use Rattle.std.proofs.Common.{Some}
use Rattle.brl_slips.specs.Pieces.{cells_of}
use Rattle.brl_slips.specs.Searching.{Fits, exactly}
use Rattle.brl_slips.specs.declared.fault.Fault.TheVariants.{Replaced}
use Rattle.brl_slips.proofs.Found.{IsFitFound, last_kind}
use Rattle.brl_slips.proofs.Missing.{found-place, found-two, two-fits}
use Rattle.brl_slips.proofs.slip.Question.two_replaced.Goals as goal

pub returns-in_default : goal.returns-in_default
returns-in_default c =
    let pieces = c.args.self.text.pieces.now in
    let none = subst (IsFitFound pieces c.args.self.text.chars.now c.as_slice.result.now 2) c.in_default.is c.in_ok-found.ensures in
    last_kind c.args.self (λ p q row like. none row like.spelling
    (subst (λ w. Fits w 2 (cells_of pieces row)) (sym (c.as_slice.ensures.value ∙ c.in_ok-wanted.ensures)) (two-fits c.args.self.cells.now (cells_of pieces row) p q like.differs)))

pub differing_from-second-requires-clause-from : goal.differing_from-second-requires-clause-from
differing_from-second-requires-clause-from c =
    let pieces = c.args.self.text.pieces.now in
    let cells = c.args.self.cells.now in
    let row = c.in-Some.spelling.items in
    let spelled = cells_of pieces row in
    let found = subst (IsFitFound pieces c.args.self.text.chars.now c.as_slice.result.now 2) c.in-Some.is c.in_ok-found.ensures in
    let fits = subst (λ w. Fits w 2 spelled) (c.as_slice.ensures.value ∙ c.in_ok-wanted.ensures) found.1 in
    let first = c.differing_from-first.result in
    let is = c.differing_from-first.ensures in
    omega (
      arith,
      found-place cells spelled first (fits.as_many ∙ length-map cells Some) (c.requires.unspelled row 0 found.0 (omega arith)) is.within
          (subst (λ s. (k : ℕ) → 0 ≤ k → k < first → get_or cells k 0 ≡ get_or s k 0) (c.as_slice-3.ensures.value ∙ (c.in_ok-spelled.ensures ∙ ap (cells_of pieces) c.as_slice-2.ensures.value)) is.same),
    )

pub returns : goal.returns
returns c =
    let pieces = c.args.self.text.pieces.now in
    let cells = c.args.self.cells.now in
    let row = c.in-Some.spelling.items in
    let spelled = cells_of pieces row in
    let found = subst (IsFitFound pieces c.args.self.text.chars.now c.as_slice.result.now 2) c.in-Some.is c.in_ok-found.ensures in
    let first = c.differing_from-first.result in
    let is = c.differing_from-first.ensures in
    let second = c.differing_from-second.result in
    let is2 = c.differing_from-second.ensures in
    let same : c.as_slice-3.result.now ≡ spelled = c.as_slice-3.ensures.value ∙ (c.in_ok-spelled.ensures ∙ ap (cells_of pieces) c.as_slice-2.ensures.value) in
    let same2 : c.as_slice-4.result.now ≡ spelled = c.as_slice-4.ensures.value ∙ (c.in_ok-spelled.ensures ∙ ap (cells_of pieces) c.as_slice-2.ensures.value) in (
      omega arith,
      record {
        spelling = found.0;
        differs = found-two cells spelled first second (subst (λ w. Fits w 2 spelled) (c.as_slice.ensures.value ∙ c.in_ok-wanted.ensures) found.1) (c.requires.unspelled row 0 found.0 (omega arith))
            (λ fault. c.requires.none (Replaced first) row refl (record { spelling = found.0; differs = fault; enough = c.requires.question.four }))
            is.within
            (subst (λ s. (k : ℕ) → 0 ≤ k → k < first → get_or cells k 0 ≡ get_or s k 0) same is.same)
            (subst (λ s. first < length cells → get_or cells first 0 ≢ get_or s first 0) same is.differs)
            is2.from is2.within
            (subst (λ s. (k : ℕ) → first + 1 ≤ k → k < second → get_or cells k 0 ≡ get_or s k 0) same2 is2.same)
            (subst (λ s. second < length cells → get_or cells second 0 ≢ get_or s second 0) same2 is2.differs);
        enough = c.if-self-lt7.false;
      },
      λ other row from earlier. absurd (omega (arith, from, earlier)),
    )
