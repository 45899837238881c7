use Rattle.std.proofs.Common.{arith, inl, inr}
use Rattle.std.proofs.lemmas.Bool.{cases_lt}
use Rattle.brl_slips.proofs.twins.one_difference.Goals as goal
use Rattle.brl_slips.proofs.twins.one_difference.Goals.{then-place-left-via-then-place-left, then-place-left-via-else-place-left+then-differing_from-left}

pub returns-then-place-left : goal.returns-then-place-left
returns-then-place-left c place is =
    let first = c.differing_from-place.result in
    elim (cases_lt place first) [
      | inl before ↦ is.differ (c.differing_from-place.ensures.same place (omega arith) before)
      | inr from ↦ elim c.then-place-left.branch [
        | then-place-left-via-then-place-left w ↦ omega (arith, is.within, w.if-place-left.true, from)
        | then-place-left-via-else-place-left+then-differing_from-left w ↦ elim (cases_lt first place) [
          | inl later ↦ c.differing_from-place.ensures.differs (omega (arith, later, is.within)) (is.same first (λ same. omega (arith, later, same)))
          | inr until ↦ w.differing_from.ensures.differs w.if-differing_from-left.true (is.same w.differing_from.result (λ same. omega (arith, same, until, w.differing_from.ensures.after)))
        ]
      ]
    ]
