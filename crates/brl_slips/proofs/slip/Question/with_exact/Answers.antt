use Rattle.std.proofs.Common.{◌∙◌}
use Rattle.brl_slips.proofs.Found.{spelled_as}
use Rattle.brl_slips.proofs.slip.Question.with_exact.Goals as goal

pub returns : goal.returns
returns c =
    spelled_as c.args.self.text.pieces.now c.args.self.text.chars.now c.args.cells.now c.as_slice.result.now c.with_cells.result (c.as_slice.ensures.value ∙ c.in_ok-wanted.ensures) c.with_cells.ensures
