use Rattle.brl_pairs.proofs.Positions.{known, new}
use Rattle.brl_pairs.proofs.members.Members.insert.Goals as goal

pub returns-clause-new : goal.returns-clause-new
returns-clause-new g c = new g.met.T.Eq.laws g.met.T.Key.same c.args.self.now c.args.value c.in_ok-insert_full.field-0.1 (rw (← c.self.view_is) c.in_ok-insert_full.ensures.added)

pub returns-clause-known : goal.returns-clause-known
returns-clause-known g c = known g.met.T.Eq.laws g.met.T.Key.same c.args.self.now c.args.value c.in_ok-insert_full.field-0.1 (rw (← c.self.view_is) c.in_ok-insert_full.ensures.added)
