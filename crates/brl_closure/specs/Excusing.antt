-- Why a body is refused where some splits are excused: what keeps its states and pairs from being
-- closed but for these. The project's own choice.
use Rattle.std.specs.Prelude.{ℕ, IsTrue}
use Rattle.brl_closure.specs.Refusals.{IsFirstRefusal, MissesSplit}
use Rattle.brl_closure.specs.declared.check.fault.AcceptFault.{AcceptFault}
use Rattle.brl_pairs.specs.Body.{BodyView}
use Rattle.brl_pairs.specs.Divergence.{has_rules}
use Rattle.brl_pairs.specs.Exchanges.{AreExcused, IsClosedUpTo}
use Rattle.brl_pairs.specs.Sets.{sets_of}
use Rattle.brl_pairs.specs.Runs.{Behaviour}
use Rattle.brl_pairs.specs.declared.excused.Excused.{Excused}

-- the first has each accepted pair of rules of the second, and each that may be exchanged
pub record ExcusesAll (more excused : Excused) : Type 0 where
  pub accepted : (r s : ℕ) → IsTrue (has_rules excused.accepted r s) → IsTrue (has_rules more.accepted r s)
  pub exchanged : (r s : ℕ) → IsTrue (has_rules excused.exchanged r s) → IsTrue (has_rules more.exchanged r s)

-- of no state and no two rules it holds
abbrev pub HasNone : (ℕ → ℕ → ℕ → Type 0) → Type 0
HasNone Misses = (number lesser greater : ℕ) → Misses number lesser greater → ⊥

-- two steps of these rules from the state with this number split into a pair that isn't listed, and
-- they are not excused
pub record MissesUnexcused {S : Type 0} (m : Behaviour S) (excused : Excused) (body : BodyView S) (number lesser greater : ℕ) : Type 0 where
  pub misses : MissesSplit m body number lesser greater
  pub unexcused : AreExcused excused.exchanged excused.accepted misses.split.longer misses.split.shorter → ⊥

module _ {S : Type 0} (m : Behaviour S) (excused : Excused) (body : BodyView S) where
  -- the states and pairs are closed, but for splits that are excused
  abbrev pub IsClosedBody : Type 0
  IsClosedBody = IsClosedUpTo m excused.exchanged excused.accepted (sets_of body)

  -- the first fault that applies, where each split that isn't excused must be listed
  abbrev pub IsRefusedUpTo : AcceptFault → Type 0
  IsRefusedUpTo fault = IsFirstRefusal m body (MissesUnexcused m excused body) fault
