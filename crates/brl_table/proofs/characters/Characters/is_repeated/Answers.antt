use Rattle.brl_table.proofs.DefinitionSteps.{again-literary, again-plain}
use Rattle.brl_table.proofs.characters.Characters.is_repeated.Goals as goal

pub returns-then-definition : goal.returns-then-definition
returns-then-definition c defined represents =
    again-literary defined c.args.definition.now c.args.self.now represents c.is_literary.result c.is_literary.ensures c.if-definition.true

pub returns-else-definition : goal.returns-else-definition
returns-else-definition c defined represents =
    again-plain defined c.args.definition.now c.args.self.now represents c.contains.result c.contains.ensures c.if-definition.false
