use Rattle.std.proofs.Common.{lit<}
use Rattle.brl_explain.proofs.WordLemmas.{before_mark}
use Rattle.brl_explain.proofs.explaining.first_line.Goals as goal

pub returns-in-Some : goal.returns-in-Some
returns-in-Some c = rw c.in-Some.is at (before_mark 10 (lit< tt) c.args.text.now c.split_once.result c.split_once.ensures.cases)

pub returns-in-None : goal.returns-in-None
returns-in-None c = rw c.in-None.is at (before_mark 10 (lit< tt) c.args.text.now c.split_once.result c.split_once.ensures.cases)
