use Rattle.brl_lines.proofs.WalkLemmas.{lines-without}
use Rattle.brl_lines.proofs.skipping.load_without_dictionaries.Goals as goal

pub returns-clause-lines : goal.returns-clause-lines
returns-clause-lines g c = lines-without (g.S.Source.gives c.args.source.now) c.args.root.now _ c.in_ok-files.ensures.ok c.new.result c.new.ensures
