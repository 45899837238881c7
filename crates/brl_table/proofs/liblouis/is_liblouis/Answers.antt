use Rattle.std.proofs.Common.{rules}
use Rattle.brl_table.specs.Liblouis.{is_opcode}
use Rattle.brl_table.proofs.liblouis.is_liblouis.Goals as goal

pub returns : goal.returns
unfolding is_opcode
returns c = search rules
