use Rattle.brl_clashes.proofs.Places.{file_of_info}
use Rattle.brl_clashes.proofs.columns.own_source.Goals as goal

pub returns-clause-named : goal.returns-clause-named
returns-clause-named c = file_of_info c.args.table.now c.law.ensures c.in-Some.character c.info.result c.in-Some-info.info c.info.ensures.value c.in-Some-info.is
