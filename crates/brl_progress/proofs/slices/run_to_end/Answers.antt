use Rattle.std.proofs.Common.{◌<◌, ◌+◌, ◌≤◌, sym, subst, refl, arith}
use Rattle.brl_progress.specs.declared.slices.Slice.{Slice}
use Rattle.brl_progress.specs.Slices.{EndsWith}
use Rattle.brl_progress.proofs.SliceLemmas.{ends_after, if_unfinished, less_left, steps_left_in}
use Rattle.brl_progress.proofs.slices.run_to_end.Goals as goal

pub loop-slice-smaller : goal.loop-slice-smaller
loop-slice-smaller g c =
    let old = c.in-Unfinished.rest in
    let steps_left = g.S.Sliced.steps_left in
    let slice = c.in_ok-slice-in-Unfinished.slice in
    subst (λ (p : Slice g.row.S.Denot g.row.S-Outcome.Denot). steps_left_in steps_left slice < steps_left_in steps_left p) (sym c.in-Unfinished.is)
    (less_left steps_left old 16 (omega arith) slice
    (if_unfinished (g.S.Sliced.comes_to 16 old) (λ new. steps_left new + 16 ≤ steps_left old) (g.met.S.Sliced.fewer 16 old) slice c.in_ok-slice-in-Unfinished.ensures.unfinished))

pub loop-slice-preserved : goal.loop-slice-preserved
loop-slice-preserved g c = λ outcome ends.
    let old = c.in-Unfinished.rest in
    let ends_with = g.S.Sliced.ends_with in
    let slice = c.in_ok-slice-in-Unfinished.slice in
    c.loop-slice.invariant outcome (subst (λ (p : Slice g.row.S.Denot g.row.S-Outcome.Denot). EndsWith ends_with p outcome) (sym c.in-Unfinished.is)
    (ends_after ends_with old slice outcome c.in_ok-slice-in-Unfinished.ensures.finished
    (if_unfinished (g.S.Sliced.comes_to 16 old) (λ new. ends_with new outcome → ends_with old outcome) (λ new after. g.met.S.Sliced.same 16 old new after outcome) slice
    c.in_ok-slice-in-Unfinished.ensures.unfinished)
    ends))

pub returns-in-Finished : goal.returns-in-Finished
returns-in-Finished g c =
    c.loop-slice.invariant c.in-Finished.outcome (subst (λ (p : Slice g.row.S.Denot g.row.S-Outcome.Denot). EndsWith g.S.Sliced.ends_with p c.in-Finished.outcome)
    (sym c.in-Finished.is) refl)
