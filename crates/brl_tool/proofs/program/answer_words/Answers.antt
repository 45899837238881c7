use Rattle.std.proofs.Common.{Ok}
use Rattle.brl_tool.proofs.program.answer_words.Goals as goal

pub returns-in-Fault-Help : goal.returns-in-Fault-Help
returns-in-Fault-Help g c = rw (c.in-Fault-Help.is, c.in-Fault-Help.field-0-is) (Ok c.new.result, c.new.ensures, c.deliver.ensures)
