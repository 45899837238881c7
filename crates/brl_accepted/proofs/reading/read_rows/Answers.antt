use Rattle.std.proofs.Common.{◌<◌, arith, length, map, rules, [], ap}
use Rattle.std.proofs.lemmas.List.{get_or-map, length-map}
use Rattle.brl_accepted.specs.Words.{list_of, names_read}
use Rattle.brl_accepted.proofs.Finding.{found_more}
use Rattle.brl_accepted.proofs.reading.read_rows.Goals as goal

pub loop-place-preserved : goal.loop-place-preserved
loop-place-preserved c =
    let all = map (λ row. row.now) c.args.rows.now in
    let place = c.loop-place.place in
    let within : place < length all = omega (arith, c.loop-place-test.true, length-map c.args.rows.now (λ row. row.now)) in
    found_more (names_read c.args.reader) (list_of c.args.reader) c.args.path.now all _ place c.loop-place.found c.push.new.self c.in_ok-named.named within (get_or-map (λ row. row.now) c.args.rows.now place _ [] c.loop-place-test.true)
    c.loop-place.invariant c.in_ok-named.ensures c.in_ok-push.ensures.pairs c.in_ok-push.ensures.sets c.in_ok-push.ensures.stale c.in_ok-push.ensures.kept
