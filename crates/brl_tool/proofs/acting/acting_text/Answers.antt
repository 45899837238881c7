use Rattle.std.proofs.Common.{◌∙◌, ◌<◌, ◌≤◌, ap, arith, length, map, string_bytes, sym}
use Rattle.std.proofs.lemmas.List.{get_or-map, length-map}
use Rattle.brl_acting.specs.WholeTable.{acting_view}
use Rattle.brl_acting.proofs.Enumerated.{all_items, one_more}
use Rattle.brl_tool.specs.Acting.{text_at}
use Rattle.brl_tool.proofs.acting.acting_text.Goals as goal

pub loop-place-preserved : goal.loop-place-preserved
loop-place-preserved c =
    let lines = map acting_view c.args.lines.now in
    let place = c.loop-place.place in
    let line = acting_view c.index-lines-place.result in
    let within : place < length lines = omega (arith, c.loop-place-test.true, length-map c.args.lines.now acting_view) in
    let is = get_or-map acting_view c.args.lines.now place c.index-lines-place.result line c.loop-place-test.true ∙ sym (ap acting_view c.index-lines-place.is) in
    one_more (text_at lines) lines place line (string_bytes c.loop-place.text) (string_bytes c.push_line.new.text) within is c.loop-place.invariant
    c.in_ok-push_line.ensures

pub returns : goal.returns
returns c =
    let lines = map acting_view c.args.lines.now in
    let past : length lines ≤ c.loop-place.place = omega (arith, c.loop-place-test.false, length-map c.args.lines.now acting_view) in
    c.loop-place.invariant ∙ all_items (text_at lines) lines c.loop-place.place past
