use Rattle.std.proofs.Common.{◌≡◌, ◌∙◌, List, ℕ, length, ap, slice_get, subst, subst₂}
use Rattle.brl_accept.specs.declared.judge_fault.JudgeFault.{JudgeFault}
use Rattle.brl_accept.specs.declared.judge_fault.JudgeFault.TheVariants.{Refused}
use Rattle.brl_without.specs.Scope.{IsNothing}
use Rattle.brl_closure.specs.Excusing.{IsClosedBody, IsRefusedUpTo}
use Rattle.brl_closure.specs.declared.check.checker.Accepted.{Accepted}
use Rattle.brl_closure.specs.declared.check.fault.AcceptFault.{AcceptFault}
use Rattle.brl_failure.specs.Raised.{if_err-raised, if_ok-both, if_ok-raised}
use Rattle.brl_pairs.specs.Exchanges.{IsClosedUpTo, TextsDifferByExchangesBut}
use Rattle.brl_pairs.specs.Runs.{IsUnambiguous}
use Rattle.brl_pairs.specs.Sets.{pair_at, sets_of}
use Rattle.brl_pairs.proofs.Excusing.{closed_from_up_to}
use Rattle.brl_without.specs.Without.{IsUnambiguousFor, without}
use Rattle.brl_accept.proofs.judge_files.judge_body.Goals as goal

pub returns : goal.returns
returns g c =
    let m = g.M.Machine.behaviour in
    let left_out = c.args.scope.left_out.now in
    let excused = c.args.scope.excused.now in
    let body = c.args.body.now in
    let w = c.new-without.result in
    let told = c.accept_up_to-accepted.ensures in
    let same : without w.left_out (m w.machine) ≡ without left_out (m c.args.machine.now) =
    ap (λ (cs : List ℕ). without cs (m w.machine)) c.new-without.ensures.left_out ∙ ap (without left_out) (ap m c.new-without.ensures.machine) in
    let counts = if_ok-both (λ (a : Accepted). a.states ≡ length body.states) (λ (a : Accepted). a.pairs ≡ length body.pairs) c.accept_up_to-accepted.result told.states told.pairs in
    record {
      texts = if_ok-raised _ (λ (a : Accepted). TextsDifferByExchangesBut excused.exchanged excused.accepted (without w.left_out (m w.machine)))
          (λ (a : Accepted). TextsDifferByExchangesBut excused.exchanged excused.accepted (without left_out (m c.args.machine.now))) c.accept_up_to-accepted.result c.raise.result c.raise.ensures told.texts
          (λ a texts. subst (TextsDifferByExchangesBut excused.exchanged excused.accepted) same texts);
      unambiguous = if_ok-raised _ (λ (a : Accepted). IsClosedBody (without w.left_out (m w.machine)) excused body) (λ (a : Accepted). IsNothing excused → IsUnambiguousFor left_out (m c.args.machine.now)) c.accept_up_to-accepted.result c.raise.result c.raise.ensures told.closed
          (λ a closed nothing. (c.unambiguous_without_law.ensures left_out).0 (subst IsUnambiguous same
          (c.numbered_sets_law.ensures (slice_get body.states) (pair_at body)
          (closed_from_up_to (without w.left_out (m w.machine)) (sets_of body)
          (subst₂ (λ (exchanged accepted : List (ℕ × ℕ)). IsClosedUpTo (without w.left_out (m w.machine)) exchanged accepted (sets_of body)) nothing.1 nothing.0 closed)))));
      accepted = if_ok-raised _ _ _ c.accept_up_to-accepted.result c.raise.result c.raise.ensures
          (if_ok-both (λ (a : Accepted). IsClosedBody (without w.left_out (m w.machine)) excused body) (λ (a : Accepted). (a.states ≡ length body.states) × (a.pairs ≡ length body.pairs)) c.accept_up_to-accepted.result told.closed counts)
          (λ a h. (subst (λ machine. IsClosedBody machine excused body) same h.0, h.1.0, h.1.1));
      refused = if_err-raised _ _ (λ (fault : JudgeFault). (refusal : AcceptFault) × (fault ≡ Refused refusal) × IsRefusedUpTo (without left_out (m c.args.machine.now)) excused body refusal) c.accept_up_to-accepted.result c.raise.result c.raise.ensures told.refused
          (λ one other is h. (one, is, subst (λ machine. IsRefusedUpTo machine excused body one) same h));
    }
