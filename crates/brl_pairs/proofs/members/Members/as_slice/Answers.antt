use Rattle.std.proofs.Common.{subst}
use Rattle.std.specs.List.{IsDistinct}
use Rattle.brl_pairs.proofs.Positions.{one_number}
use Rattle.brl_pairs.proofs.members.Members.as_slice.Goals as goal

pub returns-clause-one_number : goal.returns-clause-one_number
returns-clause-one_number g c = one_number g.met.T.Eq.laws g.met.T.Key.same c.args.self.now (subst (IsDistinct g.T.PartialEq.eq) c.self.view_is c.self.invariant)
