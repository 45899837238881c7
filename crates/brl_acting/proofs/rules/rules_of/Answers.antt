use Rattle.std.proofs.Common.{◌∙◌, ◌<◌, ◌≤◌, ap, arith, length, map, sym}
use Rattle.std.proofs.lemmas.List.{get_or-map, length-map}
use Rattle.brl_acting.specs.Readings.{rule_at, rule_view}
use Rattle.brl_acting.specs.PartsViews.{parts_view}
use Rattle.brl_acting.proofs.Enumerated.{all_items, one_more}
use Rattle.brl_acting.proofs.rules.rules_of.Goals as goal

pub loop-place-preserved : goal.loop-place-preserved
loop-place-preserved c =
    let lines = map parts_view c.args.lines.now in
    let place = c.loop-place.place in
    let line = parts_view c.index-lines-place.result in
    let within : place < length lines = omega (arith, c.loop-place-test.true, length-map c.args.lines.now parts_view) in
    let is = get_or-map parts_view c.args.lines.now place c.index-lines-place.result line c.loop-place-test.true ∙ sym (ap parts_view c.index-lines-place.is) in
    one_more rule_at lines place line (map rule_view c.loop-place.rules.items) (map rule_view c.push_rule.new.rules.items) within is c.loop-place.invariant c.in_ok-push_rule.ensures

pub returns : goal.returns
returns c =
    let lines = map parts_view c.args.lines.now in
    let past : length lines ≤ c.loop-place.place = omega (arith, c.loop-place-test.false, length-map c.args.lines.now parts_view) in
    c.loop-place.invariant ∙ all_items rule_at lines c.loop-place.place past
