use Rattle.std.proofs.Common.{subst}
use Rattle.brl_pairs.specs.Based.{KeepsSharing}
use Rattle.brl_without.specs.Without.{WithoutView}
use Rattle.brl_without.proofs.Bases.{sharing_without}
use Rattle.brl_without.proofs.without.WithoutBased.law.Goals as goal

pub returns : goal.returns
returns g c =
    sharing_without c.args.self.now.left_out g.M.State.PartialEq.eq (g.M.Machine.behaviour c.args.self.now.machine) (g.M.Based.sharing c.args.self.now.machine)
    (subst (λ (w : WithoutView g.row.M.Denot). KeepsSharing g.M.State.PartialEq.eq (g.M.Machine.behaviour w.machine) (g.M.Based.sharing w.machine)) c.self.view_is c.law.ensures)
