use Rattle.std.proofs.Common.{◌++◌, ◌∷◌, [], length, refl}
use Rattle.brl_table.specs.Reading.{definitions, used_rules}
use Rattle.brl_table.proofs.ItemSteps.{too_many-characters, too_many-rules}
use Rattle.brl_table.proofs.builder.TableBuilder.exceeds_limits.Goals as goal

pub returns-then-count_with-gt-MOST_CHARACTERS : goal.returns-then-count_with-gt-MOST_CHARACTERS
returns-then-count_with-gt-MOST_CHARACTERS c earlier represents =
    too_many-characters earlier c.args.item.now c.count_with.result (length (used_rules (earlier ++ c.args.item.now ∷ [])))
    (c.count_with.ensures (definitions earlier) represents.defined) refl c.if-count_with-gt-MOST_CHARACTERS.true

pub returns-else-count_with-gt-MOST_CHARACTERS : goal.returns-else-count_with-gt-MOST_CHARACTERS
returns-else-count_with-gt-MOST_CHARACTERS c earlier represents =
    too_many-rules earlier c.args.item.now c.count_with.result c.used_with.result
    (c.count_with.ensures (definitions earlier) represents.defined) (c.used_with.ensures earlier represents.counted) c.if-count_with-gt-MOST_CHARACTERS.false
