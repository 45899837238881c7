use Rattle.std.proofs.Common.{◌≡◌, ◌∙◌, None, Some, ap, length, map, option_map, string_bytes, subst, sym}
use Rattle.std.specs.Option.{option_copied}
use Rattle.brl_accepted.specs.Reading.{accepted_count, excused_by, excused_of, if_whole, names_in, names_of, pruned, sets_named, stale_count}
use Rattle.brl_lines.specs.Views.{line_view}
use Rattle.brl_tool.specs.Baselines.{names_of_table, pruned_by, taken_by}
use Rattle.brl_tool.proofs.baselines.exempt_by.Goals as goal

pub returns-clause-taken : goal.returns-clause-taken
returns-clause-taken c =
    let t = c.args.asked.table.now in
    let lines = map line_view c.args.asked.lines.now in
    let tally = c.args.tally.now in
    let text = c.in-Some.file.text.now in
    let names : names_of c.new-known.result ≡ names_of_table t lines =
    c.new-known.ensures ∙ ap (names_in t lines) (ap (map (λ set. set.items)) c.as_slice.ensures.value ∙ c.in_ok-sets.ensures) in
    let listed : c.in_ok-listed.listed ≡ tally.found = c.in_ok-listed.ensures ∙ c.in_ok-to_vec.ensures in
    let pairs : c.as_slice-2.result.now ≡ tally.found = c.as_slice-2.ensures ∙ listed in
    let list : option_copied c.if_whole-list.result ≡ if_whole tally.whole tally.found = c.if_whole-list.ensures ∙ ap (if_whole tally.whole) listed in
    let excused : c.args.asked.excused.now ≡ excused_by (names_of_table t lines) None text = rw c.in-Some.is at c.requires in
    let e = c.in_ok-excusal.ensures in
    let sets = e.sets ∙ (λ i. sets_named (names i) (list i) text) in
    let stale = e.stale_count ∙ (λ i. stale_count (names i) (list i) text) in
    let taken = c.taken_of-taken.ensures
    ∙ (λ i. record {
      listed = length (excused_of (excused i) (pairs i));
      counts = record { pairs = accepted_count (excused i) (pairs i); sets = sets i };
      stale = stale i;
      pruned = c.args.prune;
    }) in
    subst (λ baseline. Some c.taken_of-taken.result ≡ taken_by (option_map (λ file. file.text.now) baseline) c.args.prune t lines tally.found tally.whole) (sym c.in-Some.is) (ap Some taken)

pub returns-clause-kept : goal.returns-clause-kept
returns-clause-kept c =
    let t = c.args.asked.table.now in
    let lines = map line_view c.args.asked.lines.now in
    let tally = c.args.tally.now in
    let text = c.in-Some.file.text.now in
    let names : names_of c.new-known.result ≡ names_of_table t lines =
    c.new-known.ensures ∙ ap (names_in t lines) (ap (map (λ set. set.items)) c.as_slice.ensures.value ∙ c.in_ok-sets.ensures) in
    let listed : c.in_ok-listed.listed ≡ tally.found = c.in_ok-listed.ensures ∙ c.in_ok-to_vec.ensures in
    let list : option_copied c.if_whole-list.result ≡ if_whole tally.whole tally.found = c.if_whole-list.ensures ∙ ap (if_whole tally.whole) listed in
    subst (λ baseline. string_bytes c.in_ok-excusal.excusal.kept ≡ pruned_by (option_map (λ file. file.text.now) baseline) t lines tally.found tally.whole) (sym c.in-Some.is)
    (c.in_ok-excusal.ensures.kept ∙ (λ i. pruned (names i) (list i) text))
