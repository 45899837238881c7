use Rattle.std.proofs.Common.{[], map}
use Rattle.brl_cut.specs.Files.{file_view}
use Rattle.brl_cut.proofs.RoundLemmas.{only-held}
use Rattle.brl_cut.proofs.cutting.read_back.Goals as goal

pub returns-clause-table : goal.returns-clause-table
returns-clause-table c = rw (only-held [] (map file_view c.args.files.now) c.in_ok-source.source c.in_ok-source.ensures) at c.load_table.ensures.table

pub returns-clause-fault : goal.returns-clause-fault
returns-clause-fault c = rw (only-held [] (map file_view c.args.files.now) c.in_ok-source.source c.in_ok-source.ensures) at c.load_table.ensures.fault
