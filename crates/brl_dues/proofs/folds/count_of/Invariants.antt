use Rattle.std.proofs.Common.{◌≡◌}
use Rattle.std.specs.List.{AllWithin}
use Rattle.brl_dues.specs.declared.folds.Place.{Place}
use Rattle.brl_dues.proofs.folds.count_of.Given as goal

abbrev pub invariant-loop-count : goal.invariant-loop-count
invariant-loop-count l = AllWithin (λ (place : Place). place.fold ≡ l.fold) l.places 0 l.count
