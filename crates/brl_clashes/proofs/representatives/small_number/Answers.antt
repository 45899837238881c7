use Rattle.std.proofs.Common.{◌∙◌, ap}
use Rattle.brl_clashes.specs.Sets.{first_number}
use Rattle.brl_clashes.proofs.representatives.small_number.Goals as goal

pub returns : goal.returns
returns c = c.first_number.ensures ∙ ap (first_number c.args.table.now c.args.characters.now) c.small_letter.ensures
