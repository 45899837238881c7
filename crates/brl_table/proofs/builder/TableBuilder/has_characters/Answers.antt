use Rattle.std.proofs.Common.{◌∙◌, ap, length, nat_lt}
use Rattle.brl_table.specs.Building.{none_listed}
use Rattle.brl_table.specs.Reading.{definitions}
use Rattle.brl_table.proofs.DefinitionSteps.{count-entries}
use Rattle.brl_table.proofs.builder.TableBuilder.has_characters.Goals as goal

pub returns : goal.returns
returns c items represents = ap (nat_lt 0) (c.len.ensures.len ∙ ap length represents.defined.entries_are ∙ count-entries (definitions items) none_listed)
