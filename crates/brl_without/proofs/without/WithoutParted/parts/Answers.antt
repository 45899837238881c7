use Rattle.std.proofs.Common.{subst}
use Rattle.std.specs.Option.{IfSome}
use Rattle.std.specs.Result.{IfOk}
use Rattle.brl_pairs.specs.Parted.{ArePartsOf}
use Rattle.brl_without.specs.Without.{WithoutView}
use Rattle.brl_without.proofs.Parts.{found_without}
use Rattle.brl_without.proofs.without.WithoutParted.parts.Goals as goal

pub returns : goal.returns
returns g c =
    let w = c.args.self.now in
    found_without w.left_out (g.M.Parted.steps_of w.machine) ((g.M.Machine.behaviour w.machine).steps c.args.state.now) c.parts.result (λ v. v.items)
    (subst (λ (x : WithoutView g.row.M.Denot). IfOk c.parts.result (λ found. IfSome found (λ parts.
    ArePartsOf (g.M.Parted.steps_of x.machine) ((g.M.Machine.behaviour x.machine).steps c.args.state.now) parts.items))) c.self.view_is c.parts.ensures)
