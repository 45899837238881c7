use Rattle.std.proofs.Common.{List, ℕ, Some, sym, ◌∙◌, ap}
use Rattle.std.proofs.lemmas.Bool.{not-true}
use Rattle.std.proofs.lemmas.Option.{slice_get-get_or}
use Rattle.std.specs.Prelude.{slice_get}
use Rattle.brl_rules.specs.declared.place.Cond.{Cond}
use Rattle.brl_dues.proofs.Carrying.{settled-at}
use Rattle.brl_dues.proofs.above.Above.differs_at.Goals as goal

pub returns-in-Some : goal.returns-in-Some
returns-in-Some c =
    let other = c.in-Some.other.now in
    let here = c.index-past-place.result in
    λ t h.
    settled-at t c.args.past.now c.args.self.now.0 c.args.self.now.1 c.args.place here other
    (ap (λ x. Some x) c.in-Some.ensures.lookup.1 ∙ sym (slice_get-get_or c.self.inside.others.now c.args.place other c.in-Some.ensures.lookup.3.0)
    ∙ ap (λ (v : List ℕ × Cond). slice_get v.0 c.args.place) c.self.view_is)
    (ap (λ x. Some x) c.index-past-place.is ∙ sym (slice_get-get_or c.args.past.now c.args.place here c.requires))
    (not-true _ h)
