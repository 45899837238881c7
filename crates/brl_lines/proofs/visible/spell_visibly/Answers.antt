use Rattle.std.proofs.Common.{rules}
use Rattle.brl_lines.proofs.VisibleLemmas.{visibly_back}
use Rattle.brl_lines.proofs.visible.spell_visibly.Goals as goal

pub returns-clause-read_back : goal.returns-clause-read_back
returns-clause-read_back c = visibly_back c.args.characters.now _ c.scalars_law.ensures (search rules)
