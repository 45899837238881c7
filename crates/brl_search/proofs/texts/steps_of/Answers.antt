use Rattle.brl_search.proofs.Smallest.{faultless_text}
use Rattle.brl_search.proofs.texts.steps_of.Goals as goal

pub faultless-requires : goal.faultless-requires
faultless-requires c = faultless_text c.args.table.now c.args.text.now c.trace.result c.requires c.trace.ensures.fault
