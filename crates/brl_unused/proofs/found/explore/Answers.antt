use Rattle.std.proofs.Common.{arith}
use Rattle.brl_unused.proofs.Exploring.{passed_first}
use Rattle.brl_unused.proofs.found.explore.Goals as goal

pub returns-then-len-limit-clause-passed : goal.returns-then-len-limit-clause-passed
returns-then-len-limit-clause-passed g c = λ stopped.
    passed_first (g.M.Machine.behaviour c.args.machine.now) (g.M.Based.sharing c.args.machine.now) c.args.limit c.find_start.new.found c.in_ok-find_start.ensures.found c.in_ok-find_start.ensures.one (let size = c.len.ensures in let test = c.if-len-limit.true in omega (arith, size, test))
