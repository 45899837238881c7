use Rattle.std.proofs.Common.{◌∙◌, ◌<◌, ◌≤◌, [], ap, arith, flat_map, get_or, length, map}
use Rattle.std.proofs.lemmas.List.{get_or-map, length-map}
use Rattle.std.specs.List.{enumerate_from}
use Rattle.brl_acting.specs.WholeTable.{continued_at, place_view, rows_of}
use Rattle.brl_acting.proofs.Enumerated.{all_items, one_more}
use Rattle.brl_acting.proofs.whole_table.continued_in.Goals as goal

pub loop-place-preserved : goal.loop-place-preserved
loop-place-preserved c =
    let items = c.deref-row-items.result.now in
    let rows = map (λ row. row.now) items in
    let place = c.loop-place.place in
    let row = (get_or items place (record { ref_ptr = (0, 0); now = [] })).now in
    let within : place < length rows = omega (arith, c.loop-place-test.true, length-map items (λ row. row.now)) in
    let is = get_or-map (λ row. row.now) items place (record { ref_ptr = (0, 0); now = [] }) row c.loop-place-test.true in
    one_more (continued_at c.as_str-path.result.now) rows place row (map place_view c.loop-place.places.items) (map place_view c.push_row.new.places.items)
    within is c.loop-place.invariant c.in_ok-push_row.ensures

pub returns : goal.returns
returns c =
    let items = c.deref-row-items.result.now in
    let rows = map (λ row. row.now) items in
    let past : length rows ≤ c.loop-place.place = omega (arith, c.loop-place-test.false, length-map items (λ row. row.now)) in
    let all = ap (map (λ row. row.now)) c.deref-row-items.ensures.value ∙ c.in_ok-rows.ensures ∙ ap rows_of c.as_slice.ensures.value in
    c.loop-place.invariant ∙ all_items (continued_at c.as_str-path.result.now) rows c.loop-place.place past
    ∙ ap (λ rs. flat_map (continued_at c.as_str-path.result.now) (enumerate_from 0 rs)) all
    ∙ ap (λ path. flat_map (continued_at path) (enumerate_from 0 (rows_of c.args.file.now.bytes.items))) c.as_str-path.ensures.value
