use Rattle.brl_table.proofs.ItemSteps.{twice-is}
use Rattle.brl_table.proofs.builder.TableBuilder.repeats_indicator.Goals as goal

pub returns-in-Indicates : goal.returns-in-Indicates
returns-in-Indicates c items represents =
    twice-is c.signs_law.ensures.own items c.args.self.now.signs c.in-Indicates.sign c.in-Indicates.field-1 c.cells.result.now c.args.item.now c.is_empty.result represents c.cells.ensures c.is_empty.ensures
    c.in-Indicates.is
