use Rattle.std.proofs.Common.{◌∙◌, ◌<◌, ◌≤◌, ap, arith, length, map, sym}
use Rattle.std.proofs.lemmas.List.{get_or-map, length-map}
use Rattle.brl_acting.specs.Acting.{acting_at}
use Rattle.brl_acting.specs.Readings.{known_view}
use Rattle.brl_acting.specs.PartsViews.{parts_view}
use Rattle.brl_acting.proofs.Enumerated.{all_items, one_more}
use Rattle.brl_acting.proofs.judging.acting_places.Goals as goal

pub loop-place-preserved : goal.loop-place-preserved
loop-place-preserved c =
    let lines = map parts_view c.args.parts.now in
    let place = c.loop-place.place in
    let line = parts_view c.index-parts-place.result in
    let within : place < length lines = omega (arith, c.loop-place-test.true, length-map c.args.parts.now parts_view) in
    let is = get_or-map parts_view c.args.parts.now place c.index-parts-place.result line c.loop-place-test.true ∙ sym (ap parts_view c.index-parts-place.is) in
    one_more (acting_at (known_view c.args.known.now)) lines place line c.loop-place.places.items c.push_acting.new.places.items within is c.loop-place.invariant c.in_ok-push_acting.ensures

pub returns : goal.returns
returns c =
    let lines = map parts_view c.args.parts.now in
    let past : length lines ≤ c.loop-place.place = omega (arith, c.loop-place-test.false, length-map c.args.parts.now parts_view) in
    c.loop-place.invariant ∙ all_items (acting_at (known_view c.args.known.now)) lines c.loop-place.place past
