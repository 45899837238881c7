use Rattle.std.proofs.Common.{◌≡◌, ◌<◌, ℕ, All, length, Some, slice_get, refl, sym, ◌∙◌, ap, subst, arith}
use Rattle.std.proofs.lemmas.List.Elements.{All-set, All-weaker}
use Rattle.std.proofs.lemmas.Option.{slice_get_within}
use Rattle.brl_closure.specs.Fresh.{HasStepLeft, IsPartly}
use Rattle.brl_closure.proofs.Additions.{advances_trans}
use Rattle.brl_closure.proofs.Fresh.{fewer_left, partly_still, same_parts}
use Rattle.brl_closure.proofs.search.finder.Finder.number_parts.Goals as goal
use Rattle.brl_pairs.proofs.Lists.{read_at, same_place}

pub loop-place-smaller : goal.loop-place-smaller
loop-place-smaller g c =
    let fresh = c.loop-place.fresh.items in
    let left = subst (λ l. HasStepLeft l c.in-Some.place) c.as_slice.ensures.value c.in-Some.ensures.some in
    let at = read_at fresh fresh c.in-Some.place c.index_mut.result.now refl (slice_get_within fresh c.in-Some.place left.part left.at) c.index_mut.ensures.value in
    fewer_left fresh c.in-Some.place c.index_mut.result.now c.number_next.new.fresh at (subst (λ f. 0 < length f.left.items) (same_place fresh c.in-Some.place left.part c.index_mut.result.now left.at at) left.some) c.in_ok-likely.ensures.left

pub loop-place-preserved : goal.loop-place-preserved
loop-place-preserved g c =
    let fresh = c.loop-place.fresh.items in
    let left = subst (λ l. HasStepLeft l c.in-Some.place) c.as_slice.ensures.value c.in-Some.ensures.some in
    let at = read_at fresh fresh c.in-Some.place c.index_mut.result.now refl (slice_get_within fresh c.in-Some.place left.part left.at) c.index_mut.ensures.value in
    let m = g.M.Machine.behaviour c.args.self.now.machine.now in
    let steps_of = g.M.Parted.steps_of c.args.self.now.machine.now in
    let states = c.number_next.new.trail.states in
    let cells = c.number_next.new.cells in
    record {
      advances = advances_trans g.M.Machine.behaviour c.args.self.now c.args.trail.now c.loop-place.trail c.number_next.new.trail c.loop-place.invariant.advances c.in_ok-likely.ensures.advances;
      pairs = c.in_ok-likely.ensures.pairs ∙ c.loop-place.invariant.pairs;
      cells = λ k own there. c.in_ok-likely.ensures.cells k own (c.loop-place.invariant.cells k own there);
      partly = All-set (IsPartly m steps_of states cells c.args.number) fresh c.in-Some.place c.number_next.new.fresh c.in_ok-likely.ensures.partly
          (All-weaker (IsPartly m steps_of c.loop-place.trail.states c.loop-place.cells c.args.number) (IsPartly m steps_of states cells c.args.number)
          (partly_still m steps_of c.args.number c.loop-place.trail.states states c.in_ok-likely.ensures.advances.1.states c.loop-place.cells cells c.in_ok-likely.ensures.cells) fresh c.loop-place.invariant.partly);
      same = same_parts fresh c.in-Some.place c.index_mut.result.now c.number_next.new.fresh at c.in_ok-likely.ensures.same ∙ c.loop-place.invariant.same;
    }
