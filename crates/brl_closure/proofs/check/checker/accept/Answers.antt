use Rattle.std.proofs.Common.{List, ℕ, slice_get, sym, subst, subst₂}
use Rattle.std.proofs.lemmas.Result.{IfErr-weaker, on_ok_weaker}
use Rattle.brl_failure.specs.Raised.{if_fault-weaker}
use Rattle.brl_pairs.specs.Exchanges.{IsClosedUpTo}
use Rattle.brl_pairs.specs.Pairs.{IsClosed}
use Rattle.brl_pairs.specs.Sets.{pair_at, sets_of}
use Rattle.brl_pairs.specs.Runs.{IsUnambiguous}
use Rattle.brl_pairs.proofs.Excusing.{closed_from_up_to, up_to_from_closed}
use Rattle.brl_closure.specs.Excusing.{IsRefusedUpTo}
use Rattle.brl_closure.specs.declared.check.fault.AcceptFault.{AcceptFault}
use Rattle.brl_closure.proofs.Unexcused.{refused_plainly}
use Rattle.brl_closure.proofs.check.checker.accept.Goals as goal

-- nothing is excused, and the steps of the whole machine are one part
pub returns-clause-closed : goal.returns-clause-closed
returns-clause-closed g c =
    let m = g.M.Machine.behaviour c.args.machine.now in
    let sets = sets_of c.args.body.now in
    on_ok_weaker c.accept_up_to.result
    (λ closed. closed_from_up_to m sets (subst₂ (λ (exchanged accepted : List (ℕ × ℕ)). IsClosedUpTo m exchanged accepted sets) c.nothing-excused.ensures.exchanged c.nothing-excused.ensures.accepted
    (subst (λ (machine : g.row.M.Denot). IsClosedUpTo (g.M.Machine.behaviour machine) c.nothing-excused.result.exchanged c.nothing-excused.result.accepted sets) c.new-whole.ensures closed)))
    c.accept_up_to.ensures.closed

pub returns-clause-unambiguous : goal.returns-clause-unambiguous
returns-clause-unambiguous g c =
    let body = c.args.body.now in
    on_ok_weaker c.accept_up_to.result
    (λ closed. subst (λ (machine : g.row.M.Denot). IsClosed (g.M.Machine.behaviour machine) (sets_of body) → IsUnambiguous (g.M.Machine.behaviour machine)) c.new-whole.ensures (c.numbered_sets_law.ensures (slice_get body.states) (pair_at body)) closed)
    (returns-clause-closed g c)

pub returns-clause-refused : goal.returns-clause-refused
returns-clause-refused g c =
    let m = g.M.Machine.behaviour c.args.machine.now in
    let body = c.args.body.now in
    let excused = c.nothing-excused.result in
    IfErr-weaker c.accept_up_to.result _ _
    (λ failure h. if_fault-weaker _ _ failure
    (λ fault refused. refused_plainly m body excused c.nothing-excused.ensures.accepted c.nothing-excused.ensures.exchanged fault
    (subst (λ (machine : g.row.M.Denot). IsRefusedUpTo (g.M.Machine.behaviour machine) excused body fault) c.new-whole.ensures refused)) h)
    c.accept_up_to.ensures.refused

pub returns-clause-not_closed : goal.returns-clause-not_closed
returns-clause-not_closed g c =
    let m = g.M.Machine.behaviour c.args.machine.now in
    let sets = sets_of c.args.body.now in
    let excused = c.nothing-excused.result in
    IfErr-weaker c.accept_up_to.result _ _
    (λ failure h. if_fault-weaker
    (λ (fault : AcceptFault). IsClosedUpTo (g.M.Machine.behaviour c.new-whole.result.machine) excused.exchanged excused.accepted sets → ⊥) (λ (fault : AcceptFault). IsClosed m sets → ⊥) failure
    (λ fault not_closed closed. not_closed (subst (λ (machine : g.row.M.Denot). IsClosedUpTo (g.M.Machine.behaviour machine) excused.exchanged excused.accepted sets) (sym c.new-whole.ensures)
    (subst₂ (λ (exchanged accepted : List (ℕ × ℕ)). IsClosedUpTo m exchanged accepted sets) (sym c.nothing-excused.ensures.exchanged) (sym c.nothing-excused.ensures.accepted) (up_to_from_closed m sets closed)))) h)
    c.accept_up_to.ensures.not_closed
