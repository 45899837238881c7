use Rattle.std.proofs.Common.{◌∙◌, ◌++◌, ap, sym, length}
use Rattle.brl_table.specs.Reading.{defined_characters, definition_in}
use Rattle.brl_table.proofs.CharacterCounts.{count-none, count-once, count-one, count-twice}
use Rattle.brl_table.proofs.characters.Characters.count_with.Goals as goal

pub returns-in-Defines : goal.returns-in-Defines
returns-in-Defines c defined represents =
    count-one defined c.args.self.now represents c.len-count.result c.len-count.ensures.len c.in-Defines.definition c.new_count.result c.new_count.ensures.value
    ∙ ap (λ item. length (defined_characters (defined ++ definition_in item))) (sym c.in-Defines.is)

pub returns-then-upper-lower : goal.returns-then-upper-lower
returns-then-upper-lower c defined represents =
    count-once defined c.args.self.now represents c.len-count.result c.len-count.ensures.len c.in-DefinesBoth.upper c.in-DefinesBoth.lower c.new_count-first.result
    c.if-upper-lower.true c.new_count-first.ensures.value
    ∙ ap (λ item. length (defined_characters (defined ++ definition_in item))) (sym c.in-DefinesBoth.is)

pub returns-else-upper-lower : goal.returns-else-upper-lower
returns-else-upper-lower c defined represents =
    count-twice defined c.args.self.now represents c.len-count.result c.len-count.ensures.len c.in-DefinesBoth.upper c.in-DefinesBoth.lower
    c.new_count-first.result c.new_count-in-DefinesBoth.result c.if-upper-lower.false
    c.new_count-first.ensures.value c.new_count-in-DefinesBoth.ensures.value
    ∙ ap (λ item. length (defined_characters (defined ++ definition_in item))) (sym c.in-DefinesBoth.is)

pub returns-in_default : goal.returns-in_default
returns-in_default c defined represents =
    count-none defined c.args.self.now represents c.len-count.result c.len-count.ensures.len c.args.item.now c.in_default.not-Defines c.in_default.not-DefinesBoth
