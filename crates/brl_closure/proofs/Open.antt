-- States and pairs that are refused aren't closed, but for what is excused.
use Rattle.std.proofs.Common.{ℕ, inl, inr}
use Rattle.brl_closure.specs.Excusing.{IsClosedBody, IsRefusedUpTo, MissesUnexcused}
use Rattle.brl_closure.specs.Refusals.{IsFirstRefusal}
use Rattle.brl_closure.specs.declared.check.fault.AcceptFault.{AcceptFault}
use Rattle.brl_closure.specs.declared.check.fault.AcceptFault.TheVariants.{NoStart, StateMissing, SplitMissing, PairMissing, BothEnd}
use Rattle.brl_pairs.specs.Body.{BodyView}
use Rattle.brl_pairs.specs.Divergence.{IsClosedExcept}
use Rattle.brl_pairs.specs.Sets.{sets_of}
use Rattle.brl_pairs.specs.Runs.{Behaviour}
use Rattle.brl_pairs.specs.declared.excused.Excused.{Excused}
use Rattle.brl_pairs.specs.declared.step.Step.{Step}

module _ {S : Type 0} (m : Behaviour S) (body : BodyView S) where
  -- where no split that must be listed is missing from sets that are closed but for splits of this
  -- kind
  open_where_first : (Misses : ℕ → ℕ → ℕ → Type 0) (Kind : Step S → Step S → Type 0) (closed : IsClosedExcept m Kind (sets_of body)) → ((number lesser greater : ℕ) → Misses number lesser greater → ⊥)
      → (fault : AcceptFault) → IsFirstRefusal m body Misses fault → ⊥
  open_where_first Misses Kind closed none NoStart h = h closed.start
  open_where_first Misses Kind closed none (StateMissing k rule) h =
      let gap = h.2.has in
      gap.missing (closed.steps gap.state gap.step (k, gap.is_state) gap.listed)
  open_where_first Misses Kind closed none (SplitMissing k lesser greater) h = none k lesser greater h.4.has
  open_where_first Misses Kind closed none (PairMissing k rule) h =
      let gap = h.4.has in
      gap.missing (closed.moves gap.pair gap.next (k, gap.is_pair) gap.moves)
  open_where_first Misses Kind closed none (BothEnd k) h =
      let both = h.4.has in
      closed.ends both.pair (k, both.is_pair) both.no_lead both.ahead both.behind

  pub open_up_to : (excused : Excused) (fault : AcceptFault) → IsRefusedUpTo m excused body fault → IsClosedBody m excused body → ⊥
  open_up_to excused fault h closed = open_where_first (MissesUnexcused m excused body) _ closed none fault h
    where
      none : (number lesser greater : ℕ) → MissesUnexcused m excused body number lesser greater → ⊥
      none number lesser greater gap = elim (closed.splits gap.misses.state gap.misses.pair (number, gap.misses.is_state) gap.misses.split) [
        | inl excused_too ↦ gap.unexcused excused_too
        | inr there ↦ gap.misses.missing there
      ]
