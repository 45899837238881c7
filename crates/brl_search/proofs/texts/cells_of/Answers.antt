use Rattle.brl_search.proofs.Smallest.{faultless_text}
use Rattle.brl_search.proofs.texts.cells_of.Goals as goal

pub faultless-requires : goal.faultless-requires
faultless-requires c = faultless_text c.args.table.now c.args.text.now c.translate.result c.requires c.translate.ensures.fault
