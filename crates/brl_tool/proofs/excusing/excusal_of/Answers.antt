use Rattle.std.proofs.Common.{◌≡◌, ◌∙◌, ◌<◌, ap, arith, [], None, length, map, sym}
use Rattle.std.proofs.lemmas.Bool.Decides.{nat_tests}
use Rattle.brl_accepted.specs.FaultText.{fault_view}
use Rattle.brl_accepted.specs.Reading.{excused_by, names_in, names_of, sets_named, stale_lines}
use Rattle.brl_lines.specs.Views.{line_view}
use Rattle.brl_tool.specs.Baselines.{names_of_table}
use Rattle.brl_tool.specs.Excusing.{stale_of}
use Rattle.brl_tool.proofs.GoodRows.{nothing_seen, something_seen}
use Rattle.brl_tool.proofs.excusing.excusal_of.Goals as goal

pub returns-then-not-is_empty-clause-fault : goal.returns-then-not-is_empty-clause-fault
returns-then-not-is_empty-clause-fault c =
    let t = c.args.table.now in
    let lines = map line_view c.args.lines.now in
    let stale = c.in_ok-excusal.excusal.stale.items in
    let names : names_of c.new-known.result ≡ names_of_table t lines =
    c.new-known.ensures ∙ ap (names_in t lines) (ap (map (λ set. set.items)) c.as_slice.ensures.value ∙ c.in_ok-sets.ensures) in
    let told : map fault_view stale ≡ stale_of t lines c.args.path.now c.args.text.now = c.in_ok-excusal.ensures.stale ∙ ap (λ n. stale_lines n None c.args.path.now c.args.text.now) names in
    let some : 0 < length stale = (let e = c.is_empty.ensures in let f = c.if-not-is_empty.true in grind (arith, nat_tests)) in
    ((λ none. something_seen stale some (told ∙ none)), told)

pub returns-clause-good : goal.returns-clause-good
returns-clause-good c =
    let t = c.args.table.now in
    let lines = map line_view c.args.lines.now in
    let stale = c.in_ok-excusal.excusal.stale.items in
    let names : names_of c.new-known.result ≡ names_of_table t lines =
    c.new-known.ensures ∙ ap (names_in t lines) (ap (map (λ set. set.items)) c.as_slice.ensures.value ∙ c.in_ok-sets.ensures) in
    let told : map fault_view stale ≡ stale_of t lines c.args.path.now c.args.text.now = c.in_ok-excusal.ensures.stale ∙ ap (λ n. stale_lines n None c.args.path.now c.args.text.now) names in
    let none : length stale ≡ 0 = (let e = c.is_empty.ensures in let f = c.if-not-is_empty.false in grind (arith, nat_tests)) in
    sym told ∙ nothing_seen stale none

pub returns-clause-excuses : goal.returns-clause-excuses
returns-clause-excuses c =
    let t = c.args.table.now in
    let lines = map line_view c.args.lines.now in
    let names : names_of c.new-known.result ≡ names_of_table t lines =
    c.new-known.ensures ∙ ap (names_in t lines) (ap (map (λ set. set.items)) c.as_slice.ensures.value ∙ c.in_ok-sets.ensures) in
    c.in_ok-excusal.ensures.excused ∙ ap (λ n. excused_by n None c.args.text.now) names

pub returns-clause-sets : goal.returns-clause-sets
returns-clause-sets c =
    let t = c.args.table.now in
    let lines = map line_view c.args.lines.now in
    let names : names_of c.new-known.result ≡ names_of_table t lines =
    c.new-known.ensures ∙ ap (names_in t lines) (ap (map (λ set. set.items)) c.as_slice.ensures.value ∙ c.in_ok-sets.ensures) in
    c.in_ok-excusal.ensures.sets ∙ ap (λ n. sets_named n None c.args.text.now) names
