use Rattle.std.proofs.Common.{subst}
use Rattle.brl_pairs.specs.Runs.{KeepsLaws}
use Rattle.brl_without.specs.Without.{WithoutView}
use Rattle.brl_without.proofs.Paths.{keeps_laws}
use Rattle.brl_without.proofs.without.WithoutMachine.start.Goals as goal

pub returns-clause-laws : goal.returns-clause-laws
returns-clause-laws g c =
    keeps_laws c.args.self.now.left_out (g.M.Machine.behaviour c.args.self.now.machine)
    (subst (λ (w : WithoutView g.row.M.Denot). KeepsLaws (g.M.Machine.behaviour w.machine)) c.self.view_is c.start.ensures.laws)
