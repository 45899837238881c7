use Rattle.std.proofs.Common.{rules}
use Rattle.brl_explain.specs.Explaining.{text_of_fault}
use Rattle.brl_explain.proofs.explaining.text_of_fault.Goals as goal

pub returns : goal.returns
unfolding text_of_fault
returns c = search rules
