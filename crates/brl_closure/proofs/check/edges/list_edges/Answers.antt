use Rattle.std.proofs.Common.{◌≡◌, ℕ, length, Some, slice_get, ap, subst, arith}
use Rattle.brl_pairs.proofs.Lists.{read_at}
use Rattle.brl_closure.specs.Refusals.{MissesState}
use Rattle.brl_closure.specs.Listing.{IsFirstMissing}
use Rattle.brl_closure.proofs.LeastLaws.{least_here}
use Rattle.brl_closure.proofs.MissingAt.{step_least}
use Rattle.brl_closure.proofs.check.edges.list_edges.Goals as goal

pub returns-in-Err-Fault-clause-refused : goal.returns-in-Err-Fault-clause-refused
returns-in-Err-Fault-clause-refused g c =
    let m = g.M.Machine.behaviour c.args.machine.now in
    let body = c.args.body.now in
    let s = c.index-states-number.result in
    let at : slice_get body.states c.args.number ≡ Some s = read_at c.states.result.now body.states c.args.number s c.states.ensures.states (omega (arith, ap length c.states.ensures.states)) c.index-states-number.is in
    let rule = c.in-Err-Fault.rule in
    let first = rw c.in-Err-Fault.field-0-is at c.in-Err-Fault.ensures.missing in
    let least = step_least m body c.args.number s at (c.requires.laws.in_order s) rule (subst (λ l. IsFirstMissing body.states l rule) c.in_ok-listed.ensures first) in
    (c.requires.start, least_here (λ k. (r : ℕ) × MissesState m body k r) c.args.number (rule, least.has) (λ k lt gap. c.requires.earlier k gap.0 lt gap.1), least)
