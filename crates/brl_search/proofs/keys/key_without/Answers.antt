use Rattle.std.proofs.Common.{◌+◌, ◌∙◌, arith}
use Rattle.brl_search.proofs.Parts.{text-without}
use Rattle.brl_search.proofs.keys.key_without.Goals as goal

pub cells_of-requires : goal.cells_of-requires
cells_of-requires c =
    let place = c.args.place in
    text-without c.args.table.now c.as_slice.result.now c.args.text.now place (place + 1) (omega arith) (c.as_slice.ensures.value ∙ c.in_ok-rest.ensures) c.requires.text
