use Rattle.std.proofs.Common.{◌≡◌, ℕ, arith, refl, subst}
use Rattle.brl_divergence.specs.ListingView.{IsAfter, ListingView}
use Rattle.brl_divergence.proofs.Settling.{working_without}
use Rattle.brl_divergence.proofs.listing.ListingSliced.run.Goals as goal

-- what holds after the steps of a listing holds of the one that is seen
after_steps : {M : Type 0} (steps : ℕ) (seen it new : ListingView M) → it ≡ seen → IsAfter steps it new → IsAfter steps seen new
after_steps steps seen it new same h = subst (λ (v : ListingView _). IsAfter steps v new) same h

pub run-requires : goal.run-requires
run-requires g c = record {
  working = working_without g.M.Machine.behaviour g.M.Parted.steps_of c.self.inside.finder c.self.inside.expanded c.self.inside.parts c.forget_parts.new.parts c.self.inside.found c.self.inside.settled c.self.invariant c.forget_parts.ensures;
}

pub returns-in-Ok-true-clause-unfinished : goal.returns-in-Ok-true-clause-unfinished
returns-in-Ok-true-clause-unfinished g c =
    let steps = rw c.in-Ok-true.field-0-test at c.in-Ok-true.ensures.steps in
    let fewer = steps.fewer in
    after_steps _ _ _ _ c.self.view_is (record { same_listing = record { same_machine = refl; same_limit = refl }; fewer = omega (arith, fewer) })

pub complete-requires : goal.complete-requires
complete-requires g c = (c.run.new.expanded, rw c.in-Ok-false.field-0-test at c.in-Ok-false.ensures.done)
