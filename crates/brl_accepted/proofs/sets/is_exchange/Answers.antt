use Rattle.std.specs.Prelude.{codes}
use Rattle.std.proofs.lemmas.Str.Pattern.{starts_text}
use Rattle.brl_accepted.proofs.sets.is_exchange.Goals as goal

pub returns : goal.returns
returns c = starts_text c.starts_with.result (codes "exchange ") c.args.row.now c.starts_with.ensures.cases
