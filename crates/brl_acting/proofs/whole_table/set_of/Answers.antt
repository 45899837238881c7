use Rattle.std.proofs.Common.{◌∙◌, [], ap, arith, map}
use Rattle.std.proofs.lemmas.List.{take_all}
use Rattle.brl_acting.specs.WholeTable.{has_place, place_view}
use Rattle.brl_acting.proofs.LookedUp.{hold_more}
use Rattle.brl_acting.proofs.whole_table.set_of.Goals as goal

pub loop-place-preserved : goal.loop-place-preserved
loop-place-preserved c =
    hold_more c.args.places.now c.loop-place.place-index (record { line = 0; path = record { ref_ptr = (0, 0); now = [] } }) c.loop-place.set.keys c.insert_place.new.set.keys c.loop-place-test.true
    c.loop-place.invariant c.in_ok-insert_place.ensures

pub returns : goal.returns
returns c = λ place.
    let all = take_all c.loop-place.place-index c.args.places.now (omega (arith, c.loop-place-test.false)) in
    c.loop-place.invariant place ∙ ap (λ ps. has_place (map place_view ps) place) all
