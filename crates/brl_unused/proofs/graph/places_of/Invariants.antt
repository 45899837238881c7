use Rattle.std.proofs.Common.{◌≡◌, ◌<◌, ◌↔◌, ℕ, Contains, Some, slice_get}
use Rattle.brl_unused.specs.Graph.{AreAscending}
use Rattle.brl_unused.proofs.graph.places_of.Given as goal

abbrev pub invariant-loop-place : goal.invariant-loop-place
invariant-loop-place l = record {
  each : (place : ℕ) → Contains l.places.items place ↔ ((place < l.place) × (slice_get l.marks place ≡ Some l.mark));
  ascending : AreAscending l.places.items;
}
