-- Work that is done in slices.
use Rattle.std.specs.Prelude.{◌≡◌}
use Rattle.brl_progress.specs.declared.slices.Slice.{Slice}
use Rattle.brl_progress.specs.declared.slices.Slice.TheVariants.{Finished, Unfinished}

module _ {S T : Type 0} where
  -- a fact of the outcome, where the work is finished
  abbrev pub IfFinished : (T → Type 0) → Slice S T → Type 0
  IfFinished P (Finished outcome) = P outcome
  IfFinished P (Unfinished rest) = Unit {0}

  -- a fact of the rest, where it isn't finished
  abbrev pub IfUnfinished : (S → Type 0) → Slice S T → Type 0
  IfUnfinished P (Unfinished rest) = P rest
  IfUnfinished P (Finished outcome) = Unit {0}

  -- this is the outcome of the work where it is finished, and else holds what the rest ends with
  abbrev pub EndsWith : (S → T → Type 0) → Slice S T → T → Type 0
  EndsWith ends_with (Finished first) outcome = outcome ≡ first
  EndsWith ends_with (Unfinished rest) outcome = ends_with rest outcome
