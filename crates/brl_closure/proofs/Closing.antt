-- A body from which nothing is missing is closed but for what is excused, and one that is refused
-- isn't.
use Rattle.std.proofs.Common.{◌≡◌, ℕ, ◌<◌, ◌⊎◌, inl, inr, length, min, max, Bool, true, Option, Some, None, slice_get, refl}
use Rattle.std.proofs.lemmas.Option.{slice_get_within}
use Rattle.std.proofs.lemmas.Slice.Eq.{bytes_eq-Decides}
use Rattle.std.specs.Str.{bytes_eq}
use Rattle.brl_closure.proofs.Open.{open_up_to}
use Rattle.brl_closure.specs.Excusing.{HasNone, IsClosedBody, IsRefusedUpTo, MissesUnexcused}
use Rattle.brl_closure.specs.Refusals.{HasStart, HasTwoEnds, MissesNoPair, MissesNoState, MissesState}
use Rattle.brl_pairs.specs.Sets.{pair_at, pair_of}
use Rattle.brl_closure.specs.declared.check.fault.AcceptFault.{AcceptFault}
use Rattle.brl_failure.specs.Failure.{IfFault}
use Rattle.brl_failure.specs.Raised.{if_fault-weaker}
use Rattle.brl_failure.specs.declared.failure.Failure.{Failure}
use Rattle.brl_closure.proofs.Deciding.{by_test, has_pair_or, has_state_or, same_or}
use Rattle.std.specs.Option.{option_and_then}
use Rattle.brl_pairs.specs.Body.{BodyView, NumberPair}
use Rattle.brl_pairs.specs.Divergence.{has_rules}
use Rattle.brl_pairs.specs.Exchanges.{AreExcused}
use Rattle.brl_pairs.specs.Runs.{Behaviour}
use Rattle.brl_pairs.specs.declared.excused.Excused.{Excused}
use Rattle.brl_pairs.specs.declared.step.Pair.{Pair}
use Rattle.brl_pairs.specs.declared.step.Step.{Step}

-- two steps are excused or not, where equal states are one
excused_or : {S : Type 0} {eq : S → S → Bool} → ((x y : S) → eq x y ≡ true → x ≡ y) → ((x : S) → eq x x ≡ true) → (excused : Excused) (x y : Step S)
    → AreExcused excused.exchanged excused.accepted x y ⊎ (AreExcused excused.exchanged excused.accepted x y → ⊥)
excused_or same itself excused x y =
    elim (by_test (has_rules excused.accepted x.rule y.rule) (λ have. have) (λ have. have)) [
      | inl have ↦ inl (inl have)
      | inr apart ↦ elim (by_test (has_rules excused.exchanged x.rule y.rule) (λ have. have) (λ have. have)) [
        | inr none ↦ inr (λ h. elim h [ inl have ↦ apart have | inr exchange ↦ none exchange.rules ])
        | inl rules ↦ elim (by_test (bytes_eq x.cells y.cells) (bytes_eq-Decides x.cells y.cells).0 (bytes_eq-Decides x.cells y.cells).1) [
          | inr differ ↦ inr (λ h. elim h [ inl have ↦ apart have | inr exchange ↦ differ exchange.cells ])
          | inl cells ↦ elim (same_or same itself x.next y.next) [
            | inr differ ↦ inr (λ h. elim h [ inl have ↦ apart have | inr exchange ↦ differ exchange.next ])
            | inl next ↦ inl (inr (record { rules = rules; cells = cells; next = next }))
          ]
        ]
      ]
    ]

module _ {S : Type 0} (m : Behaviour S) (excused : Excused) (body : BodyView S) where
  pub closed_where_none_missing : {eq : S → S → Bool} → ((x y : S) → eq x y ≡ true → x ≡ y) → ((x : S) → eq x x ≡ true) → HasStart m body → MissesNoState m body → HasNone (MissesUnexcused m excused body) → MissesNoPair m body → ((k : ℕ) → HasTwoEnds m body k → ⊥) → IsClosedBody m excused body
  closed_where_none_missing same itself start steps splits moves ends = record {
    start = start;
    steps = λ s x has listed. elim (has_state_or same itself body x.next) [
      | inl there ↦ there
      | inr missing ↦ absurd (steps has.0 x.rule (record { state = s; is_state = has.1; step = x; listed = listed; has_rule = refl; missing = missing }))
    ];
    splits = λ s p has split. elim (has_pair_or same itself body p) [
      | inl there ↦ inr there
      | inr missing ↦ elim (excused_or same itself excused split.longer split.shorter) [
        | inl excused_too ↦ inl excused_too
        | inr unexcused ↦ absurd (splits has.0 (min split.longer.rule split.shorter.rule) (max split.longer.rule split.shorter.rule) (record {
          misses = record { state = s; is_state = has.1; pair = p; split = split; has_lesser = refl; has_greater = refl; missing = missing };
          unexcused = unexcused;
        }))
      ]
    ];
    moves = λ p q has moved. elim (has_pair_or same itself body q) [
      | inl there ↦ there
      | inr missing ↦ absurd (moves has.0 moved.step.rule (record { pair = p; is_pair = has.1; next = q; moves = moved; has_rule = refl; missing = missing }))
    ];
    ends = λ p has no_lead ahead behind. ends has.0 (record { pair = p; is_pair = has.1; no_lead = no_lead; ahead = ahead; behind = behind });
  }

  pub open_where_failed : (failure : Failure AcceptFault) → IfFault (IsRefusedUpTo m excused body) failure → IfFault (λ fault. IsClosedBody m excused body → ⊥) failure
  open_where_failed failure h = if_fault-weaker (IsRefusedUpTo m excused body) (λ fault. IsClosedBody m excused body → ⊥) failure (open_up_to m body excused) h

  pub split_within : (k : ℕ) → (lesser greater : ℕ) × MissesUnexcused m excused body k lesser greater → k < length body.states
  split_within k h = slice_get_within body.states k h.2.misses.state h.2.misses.is_state

module _ {S : Type 0} (m : Behaviour S) (body : BodyView S) where
  pair_within : (k : ℕ) (p : Pair S) → pair_at body k ≡ Some p → k < length body.pairs
  pair_within k p e = by_look (slice_get body.pairs k) refl e
    where
      by_look : (o : Option NumberPair) → slice_get body.pairs k ≡ o → option_and_then (pair_of body.states) o ≡ Some p → k < length body.pairs
      by_look None is e = absurd cc
      by_look (Some pair) is e = slice_get_within body.pairs k pair is

  -- what is missing is named by a number below the count
  pub step_within : (k : ℕ) → (rule : ℕ) × MissesState m body k rule → k < length body.states
  step_within k h = slice_get_within body.states k h.1.state h.1.is_state

  pub ends_within : (k : ℕ) → HasTwoEnds m body k → k < length body.pairs
  ends_within k h = pair_within k h.pair h.is_pair
