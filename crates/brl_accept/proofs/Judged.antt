-- What follows from a judge's outcome for the table and the certificate.
use Rattle.std.proofs.Common.{◌≡◌, ℕ, ◌⊎◌, inl, inr, List, [], Result, Ok, Err, IfErr, IfOk, OnOk, refl, sym, ◌∙◌, ap, subst, subst₂}
use Rattle.brl_accept.specs.Excusing.{IsShown, MayExcuse, closed_up_to}
use Rattle.brl_accept.specs.Judging.{IsAccepted, IsAcceptedFor, IsProved, IsRefusedAs, IsRefusedBy, IsRefusedFor, Terms, closed_without, counted, load_outcome}
use Rattle.brl_closure.specs.Excusing.{IsClosedBody}
use Rattle.brl_closure.specs.Refusals.{IsRefused}
use Rattle.brl_closure.specs.declared.check.fault.AcceptFault.{AcceptFault}
use Rattle.brl_pairs.specs.Body.{BodyView}
use Rattle.brl_pairs.specs.Pairs.{IsClosed}
use Rattle.brl_pairs.specs.Runs.{Behaviour}
use Rattle.brl_closure.specs.declared.check.checker.Accepted.{Accepted}
use Rattle.brl_accept.specs.declared.judge_fault.JudgeFault.{JudgeFault}
use Rattle.brl_accept.specs.declared.judge_fault.JudgeFault.TheVariants.{NoTable, NotDefined, Cert, OldVersion, Wide, Refused}
use Rattle.brl_closure.proofs.Open.{open_up_to}
use Rattle.brl_closure.proofs.Unexcused.{refused_plainly}
use Rattle.brl_accept.specs.Kinds.{HasMachine, HasVersion}
use Rattle.brl_cert.specs.Reading.{reading}
use Rattle.brl_states.specs.Counts.{pair_count, state_count}
use Rattle.brl_states.specs.declared.cert.Cert.TheVariants.{Dues, Window, Word}
use Rattle.brl_states.specs.declared.cert.Cert.{Cert as Certificate}
use Rattle.brl_cert.specs.declared.fault.CertFault.{CertFault}
use Rattle.brl_failure.specs.Failure.{IfFault}
use Rattle.brl_failure.specs.declared.failure.Failure.{Failure}
use Rattle.brl_failure.specs.declared.failure.Failure.TheVariants.{Fault, Memory}
use Rattle.brl_lines.specs.Answer.{FileAnswers}
use Rattle.brl_lines.specs.Outcome.{CountsFailure}
use Rattle.brl_table.specs.Files.{IsTableOf}
use Rattle.brl_rules.specs.TableView.{TableView}
use Rattle.brl_rules.specs.Translation.{IsUnambiguous}
use Rattle.brl_window.specs.Windows.{window_machine}
use Rattle.brl_dues.specs.Steps.{dues_machine}
use Rattle.brl_pairs.specs.Exchanges.{IsClosedUpTo}
use Rattle.brl_pairs.specs.Sets.{sets_of}
use Rattle.brl_pairs.specs.declared.excused.Excused.{Excused}
use Rattle.brl_pairs.proofs.Excusing.{closed_from_up_to, up_to_from_closed}
use Rattle.brl_forward.specs.Trace.{trace_of}
use Rattle.brl_traces.specs.Exchanges.{TracesAgreeBut}
use Rattle.brl_traces.proofs.Alike.{itself}
use Rattle.brl_without.specs.Scope.{IsNothing}
use Rattle.brl_without.specs.Tables.{AreDefined, IsUnambiguousWithout}
use Rattle.brl_without.specs.Without.{without}

-- the same numbers
pub same_counts : (one other : Accepted) → one.states ≡ other.states → one.pairs ≡ other.pairs → one ≡ other
same_counts one other states pairs =
    subst (λ (n : ℕ). ◌≡◌ {A = Accepted} one (record { states = n; pairs = other.pairs })) states
    (subst (λ (n : ℕ). ◌≡◌ {A = Accepted} one (record { states = one.states; pairs = n })) pairs refl)

-- the outcome for the machine of a table is that for the certificate that lists the body
pub judged : (left_out : List ℕ) (excused : Excused) (t u : TableView) (cert : Certificate) → u ≡ t → (closed_up_to left_out excused).IsFor t cert → HasMachine t cert → (result : Result Accepted (Failure JudgeFault))
    → IfOk result (λ accepted. (closed_up_to left_out excused).IsClosed u cert × (accepted.states ≡ state_count cert) × (accepted.pairs ≡ pair_count cert))
    → IfErr result (IfFault (λ fault. (refusal : AcceptFault) × (fault ≡ Refused refusal) × (closed_up_to left_out excused).IsRefused refusal u cert))
    → IfOk result (IsProved (closed_up_to left_out excused) t cert) × IfErr result (IfFault (IsRefusedAs (closed_up_to left_out excused) t cert))
judged left_out excused t u cert same version has (Ok accepted) closed refused =
    ((has, subst (λ (v : TableView). (closed_up_to left_out excused).IsClosed v cert) same closed.0, same_counts accepted (counted cert) closed.1 closed.2), tt)
judged left_out excused t u cert same version has (Err (Fault fault)) closed refused =
    let moved = subst (λ (v : TableView). (closed_up_to left_out excused).IsRefused refused.0 v cert) same refused.2 in
    (tt, subst (IsRefusedAs (closed_up_to left_out excused) t cert) (sym refused.1) (version, has, moved))
judged left_out excused t u cert same version has (Err Memory) closed refused = (tt, tt)

-- what is refused is nowhere accepted
one_cert : (bytes : List ℕ) (a b : Certificate) → reading bytes ≡ Ok a → reading bytes ≡ Ok b → a ≡ b
one_cert bytes a b e f = cc

no_cert : (bytes : List ℕ) (wrong : CertFault) (cert : Certificate) → reading bytes ≡ Err wrong → reading bytes ≡ Ok cert → ⊥
no_cert bytes wrong cert e f = cc

-- what is refused isn't closed
pub not_closed_up_to : (left_out : List ℕ) (excused : Excused) (t : TableView) (cert : Certificate) (fault : AcceptFault) → (closed_up_to left_out excused).IsRefused fault t cert → (closed_up_to left_out excused).IsClosed t cert → ⊥
not_closed_up_to left_out excused t (Window body) fault h closed = open_up_to (without left_out (window_machine t)) body excused fault h closed
not_closed_up_to left_out excused t (Dues body) fault h closed = open_up_to (without left_out (dues_machine t)) body excused fault h closed
not_closed_up_to left_out excused t (Word body) fault h closed = open_up_to (without left_out (dues_machine t)) body excused fault h closed

module _ (terms : Terms) (not_closed : (t : TableView) (cert : Certificate) (fault : AcceptFault) → terms.IsRefused fault t cert → terms.IsClosed t cert → ⊥) where
  not_proved : (t : TableView) (cert : Certificate) (fault : JudgeFault) → IsRefusedAs terms t cert fault → (accepted : Accepted) → terms.IsFor t cert × IsProved terms t cert accepted → ⊥
  not_proved t cert (NoTable fault) h accepted is = h
  not_proved t cert (NotDefined fault) h accepted is = h
  not_proved t cert (Cert fault) h accepted is = h
  not_proved t cert OldVersion h accepted is = h is.0
  not_proved t cert (Wide fault) h accepted is = h.1 is.1.0
  not_proved t cert (Refused fault) h accepted is = not_closed t cert fault h.2 is.1.1

  module _ (t : TableView) (bytes : List ℕ) where
    -- a refusal of a certificate that was read, where what is left out is defined
    pub refused_read : AreDefined t terms.left_out → (cert : Certificate) → reading bytes ≡ Ok cert → (fault : JudgeFault) → IsRefusedAs terms t cert fault → IsRefusedFor terms t bytes fault
    refused_read defined cert e (NoTable fault) h = absurd h
    refused_read defined cert e (NotDefined fault) h = absurd h
    refused_read defined cert e (Cert fault) h = absurd h
    refused_read defined cert e OldVersion h = (defined, (cert, e, h))
    refused_read defined cert e (Wide fault) h = (defined, (cert, e, h))
    refused_read defined cert e (Refused fault) h = (defined, (cert, e, h))

    by_cert : (fault : JudgeFault) → (cert : Certificate) × (reading bytes ≡ Ok cert) × IsRefusedAs terms t cert fault → (accepted : Accepted) → IsAcceptedFor terms t bytes accepted → ⊥
    by_cert fault h accepted is =
        not_proved t h.0 fault h.2 accepted (subst (λ (cert : Certificate). terms.IsFor t cert × IsProved terms t cert accepted) (one_cert bytes is.1.0 h.0 is.1.1 h.1) (is.1.2, is.1.3))

    pub not_accepted : (fault : JudgeFault) → IsRefusedFor terms t bytes fault → (accepted : Accepted) → IsAcceptedFor terms t bytes accepted → ⊥
    not_accepted (NoTable fault) h accepted is = by_cert (NoTable fault) h.1 accepted is
    not_accepted (NotDefined fault) h accepted is = absurd (let defined : AreDefined t terms.left_out = is.0 in cc h.1)
    not_accepted (Cert fault) h accepted is = no_cert bytes fault is.1.0 h.1 is.1.1
    not_accepted OldVersion h accepted is = by_cert OldVersion h.1 accepted is
    not_accepted (Wide fault) h accepted is = by_cert (Wide fault) h.1 accepted is
    not_accepted (Refused fault) h accepted is = by_cert (Refused fault) h.1 accepted is

    -- the acceptances of the same bytes are one
    pub same_accepted : (one other : Accepted) → IsAcceptedFor terms t bytes one → IsAcceptedFor terms t bytes other → one ≡ other
    same_accepted one other a b =
        let cert : a.1.0 ≡ b.1.0 = one_cert bytes a.1.0 b.1.0 a.1.1 b.1.1 in
        a.1.3.2 ∙ ap counted cert ∙ sym b.1.3.2

    -- what the judge answers: acceptance, unless memory ran out
    pub decided : (accepted : Accepted) → IsAcceptedFor terms t bytes accepted → (result : Result Accepted (Failure JudgeFault)) → IfOk result (IsAcceptedFor terms t bytes)
        → IfErr result (IfFault (IsRefusedFor terms t bytes)) → (result ≡ Ok accepted) ⊎ (result ≡ Err Memory)
    decided accepted deserved (Ok other) h k = inl (ap Ok (same_accepted other accepted h deserved))
    decided accepted deserved (Err (Fault fault)) h k = absurd (not_accepted fault k accepted deserved)
    decided accepted deserved (Err Memory) h k = inr refl

-- ---- Over what the source gives

module _ (gives : FileAnswers) (root bytes : List ℕ) (t : TableView) (is : IsTableOf gives root t) where
  -- an acceptance for the table at the path
  pub accepted_at : (result : Result Accepted (Failure JudgeFault)) → OnOk result (IsUnambiguous t) → IfOk result (IsAccepted t bytes)
      → IfOk result (λ accepted. (u : TableView) × IsTableOf gives root u × IsUnambiguous u × IsAccepted u bytes accepted)
  accepted_at (Ok accepted) single h = (t, is, single, h)
  accepted_at (Err failure) single h = tt

  -- a refusal for the table at the path
  refused_for : (fault : JudgeFault) → IsRefusedFor (closed_without []) t bytes fault → ((accepted : Accepted) → IsAccepted t bytes accepted → ⊥) → IsRefusedBy gives root bytes fault
  refused_for (NoTable fault) h never = absurd h.1.2
  refused_for (NotDefined fault) h never = (t, is, h, never)
  refused_for (Cert fault) h never = (t, is, h, never)
  refused_for OldVersion h never = (t, is, h, never)
  refused_for (Wide fault) h never = (t, is, h, never)
  refused_for (Refused fault) h never = (t, is, h, never)

  neither : (fault : JudgeFault) (accepted : Accepted) (result : Result Accepted (Failure JudgeFault)) → result ≡ Err (Fault fault) → (result ≡ Ok accepted) ⊎ (result ≡ Err Memory) → ⊥
  neither fault accepted result is (inl e) = let f = sym is ∙ e in cc
  neither fault accepted result is (inr e) = let f = sym is ∙ e in cc

  pub refused_at : (result : Result Accepted (Failure JudgeFault)) → IfErr result (IfFault (IsRefusedFor (closed_without []) t bytes))
      → ((accepted : Accepted) → IsAccepted t bytes accepted → (result ≡ Ok accepted) ⊎ (result ≡ Err Memory)) → IfErr result (IfFault (IsRefusedBy gives root bytes))
  refused_at (Ok accepted) h decides = tt
  refused_at (Err Memory) h decides = tt
  refused_at (Err (Fault fault)) h decides = refused_for fault h (λ accepted deserved. neither fault accepted (Err (Fault fault)) refl (decides accepted deserved))

-- the answer for a table counts no failure of a file
pub judged_count : (before now : ℕ) → now ≡ before → (t : TableView) (bytes : List ℕ) (result : Result Accepted (Failure JudgeFault)) → IfErr result (IfFault (IsRefusedFor (closed_without []) t bytes)) → CountsFailure before now (load_outcome result)
judged_count before now same t bytes (Ok accepted) h = same
judged_count before now same t bytes (Err Memory) h = inl same
judged_count before now same t bytes (Err (Fault (NoTable fault))) h = absurd h.1.2
judged_count before now same t bytes (Err (Fault (NotDefined fault))) h = same
judged_count before now same t bytes (Err (Fault (Cert fault))) h = same
judged_count before now same t bytes (Err (Fault OldVersion)) h = same
judged_count before now same t bytes (Err (Fault (Wide fault))) h = same
judged_count before now same t bytes (Err (Fault (Refused fault))) h = same

-- ---- Nothing is excused

-- texts that are equal are the same but for what is excused
pub shown_plainly : (left_out : List ℕ) (excused : Excused) (t : TableView) → IsUnambiguousWithout left_out t → IsShown left_out excused t
shown_plainly left_out excused t single = (
  λ left right is_left is_right left_none right_none same. subst (TracesAgreeBut t excused.exchanged excused.accepted left)
      (single left right is_left is_right left_none right_none same) (inl (itself t excused.exchanged left (trace_of t left))),
  λ nothing. single,
)

module _ (left_out : List ℕ) (excused : Excused) (nothing : IsNothing excused) where
  plain_version : (t : TableView) (cert : Certificate) → HasVersion t cert → HasVersion t cert × MayExcuse excused cert
  plain_version t (Window body) has = (has, nothing)
  plain_version t (Dues body) has = (has, tt)
  plain_version t (Word body) has = (has, tt)

  module _ {S : Type 0} (m : Behaviour S) (body : BodyView S) where
    plain_sets : IsClosedBody m excused body → IsClosed m (sets_of body)
    plain_sets closed = closed_from_up_to m (sets_of body) (subst₂ (λ (exchanged accepted : List (ℕ × ℕ)). IsClosedUpTo m exchanged accepted (sets_of body)) nothing.1 nothing.0 closed)

    excused_sets : IsClosed m (sets_of body) → IsClosedBody m excused body
    excused_sets closed = subst₂ (λ (exchanged accepted : List (ℕ × ℕ)). IsClosedUpTo m exchanged accepted (sets_of body)) (sym nothing.1) (sym nothing.0) (up_to_from_closed m (sets_of body) closed)

  plain_closed : (t : TableView) (cert : Certificate) → (closed_up_to left_out excused).IsClosed t cert → (closed_without left_out).IsClosed t cert
  plain_closed t (Window body) h = plain_sets (without left_out (window_machine t)) body h
  plain_closed t (Dues body) h = plain_sets (without left_out (dues_machine t)) body h
  plain_closed t (Word body) h = plain_sets (without left_out (dues_machine t)) body h

  excused_closed : (t : TableView) (cert : Certificate) → (closed_without left_out).IsClosed t cert → (closed_up_to left_out excused).IsClosed t cert
  excused_closed t (Window body) h = excused_sets (without left_out (window_machine t)) body h
  excused_closed t (Dues body) h = excused_sets (without left_out (dues_machine t)) body h
  excused_closed t (Word body) h = excused_sets (without left_out (dues_machine t)) body h

  plain_refused : (fault : AcceptFault) (t : TableView) (cert : Certificate) → (closed_up_to left_out excused).IsRefused fault t cert → (closed_without left_out).IsRefused fault t cert
  plain_refused fault t (Window body) h = refused_plainly (without left_out (window_machine t)) body excused nothing.0 nothing.1 fault h
  plain_refused fault t (Dues body) h = refused_plainly (without left_out (dues_machine t)) body excused nothing.0 nothing.1 fault h
  plain_refused fault t (Word body) h = refused_plainly (without left_out (dues_machine t)) body excused nothing.0 nothing.1 fault h

  pub plainly_accepted : (t : TableView) (bytes : List ℕ) (accepted : Accepted) → IsAcceptedFor (closed_up_to left_out excused) t bytes accepted → IsAcceptedFor (closed_without left_out) t bytes accepted
  plainly_accepted t bytes accepted h = (h.0, (h.1.0, h.1.1, h.1.2.0, (h.1.3.0, plain_closed t h.1.0 h.1.3.1, h.1.3.2)))

  pub excused_accepted : (t : TableView) (bytes : List ℕ) (accepted : Accepted) → IsAcceptedFor (closed_without left_out) t bytes accepted → IsAcceptedFor (closed_up_to left_out excused) t bytes accepted
  excused_accepted t bytes accepted h = (h.0, (h.1.0, h.1.1, plain_version t h.1.0 h.1.2, (h.1.3.0, excused_closed t h.1.0 h.1.3.1, h.1.3.2)))

  module _ (t : TableView) (bytes : List ℕ) where
    plain_as : (cert : Certificate) (fault : JudgeFault) → IsRefusedAs (closed_up_to left_out excused) t cert fault → IsRefusedAs (closed_without left_out) t cert fault
    plain_as cert (NoTable fault) h = absurd h
    plain_as cert (NotDefined fault) h = absurd h
    plain_as cert (Cert fault) h = absurd h
    plain_as cert OldVersion h = λ version. h (plain_version t cert version)
    plain_as cert (Wide fault) h = (h.0.0, h.1)
    plain_as cert (Refused fault) h = (h.0.0, h.1, plain_refused fault t cert h.2)

    pub plainly_refused : (fault : JudgeFault) → IsRefusedFor (closed_up_to left_out excused) t bytes fault → IsRefusedFor (closed_without left_out) t bytes fault
    plainly_refused (NoTable fault) h = absurd h.1.2
    plainly_refused (NotDefined fault) h = h
    plainly_refused (Cert fault) h = h
    plainly_refused OldVersion h = (h.0, (h.1.0, h.1.1, plain_as h.1.0 OldVersion h.1.2))
    plainly_refused (Wide fault) h = (h.0, (h.1.0, h.1.1, plain_as h.1.0 (Wide fault) h.1.2))
    plainly_refused (Refused fault) h = (h.0, (h.1.0, h.1.1, plain_as h.1.0 (Refused fault) h.1.2))
