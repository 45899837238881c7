use Rattle.brl_pairs.proofs.BasedLaws.{free_stays, from_base, into_base}
use Rattle.brl_pairs.proofs.based_laws.based_law.Goals as goal

pub returns-clause-each : goal.returns-clause-each
returns-clause-each g c = λ s base z is. (
  from_base g.M.State.PartialEq.eq g.met.M.State.Key.same (g.M.Machine.behaviour c.args.machine.now) (g.M.Based.sharing c.args.machine.now) c.law.ensures s base is z,
  into_base g.M.State.PartialEq.eq g.met.M.State.Key.same (g.M.Machine.behaviour c.args.machine.now) (g.M.Based.sharing c.args.machine.now) c.law.ensures s base is z,
)

pub returns-clause-free : goal.returns-clause-free
returns-clause-free g c = λ s base x is listed through none.
    free_stays g.M.State.PartialEq.eq g.met.M.State.Key.same (g.M.Machine.behaviour c.args.machine.now) (g.M.Based.sharing c.args.machine.now) c.law.ensures s base is x listed through none
