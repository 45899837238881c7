-- The stale lines of a file of pairs of rules: whether there are some.
use Rattle.std.proofs.Common.{◌≡◌, ◌<◌, ℕ, List, [], ◌∷◌, ap, arith, length, map, refl}
use Rattle.brl_accepted.specs.FaultText.{fault_view}
use Rattle.brl_accepted.specs.declared.fault.ExcuseFault.{ExcuseFault}

-- no fault is seen as none, and some as some
pub nothing_seen : (faults : List ExcuseFault) → length faults ≡ 0 → map fault_view faults ≡ []
nothing_seen [] none = refl
nothing_seen (fault ∷ faults) none = absurd (omega (arith, none))

pub something_seen : (faults : List ExcuseFault) → 0 < length faults → map fault_view faults ≡ [] → ⊥
something_seen [] some none = absurd (omega (arith, some))
something_seen (fault ∷ faults) some none = absurd (omega (arith, ap length none))
