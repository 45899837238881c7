use Rattle.std.proofs.Common.{◌≡◌, ◌∙◌, List, ℕ, ap, length, map, subst, sym}
use Rattle.std.proofs.lemmas.List.{length-map}
use Rattle.std.proofs.lemmas.List.Folds.{flat_map-map}
use Rattle.std.proofs.lemmas.Simd.{map-map}
use Rattle.std.specs.Option.{option_copied}
use Rattle.brl_accepted.specs.FaultText.{fault_view}
use Rattle.brl_accepted.specs.Reading.{Named, named_by, names_of, rows}
use Rattle.brl_accepted.specs.Sets.{pairs_of_sets, set_count}
use Rattle.brl_accepted.specs.Words.{AreFound}
use Rattle.brl_accepted.proofs.Finding.{stale_counted}
use Rattle.brl_accepted.proofs.reading.read_excusal.Goals as goal

pub returns-clause-excused : goal.returns-clause-excused
returns-clause-excused c =
    let names = names_of c.args.known in
    let list = option_copied c.args.list in
    let by = named_by names list in
    let found = c.in_ok-found.found in
    let rows_are : map (λ row. row.now) c.as_slice-2.result.now ≡ rows c.args.text.now = ap (map (λ row. row.now)) c.as_slice-2.ensures.value ∙ c.in_ok-rows.ensures in
    let are = subst (λ (ls : List (List ℕ)). AreFound names list c.args.path.now ls found) rows_are c.in_ok-found.ensures in
    let accepted = c.in_ok-excused.ensures.accepted ∙ are.pairs ∙ sym (flat_map-map (λ (line : Named). line.pairs) by (rows c.args.text.now)) in
    let exchanged = c.in_ok-excused.ensures.exchanged ∙ ap (pairs_of_sets names.table) (are.sets ∙ sym (map-map (λ (line : Named). line.set) by (rows c.args.text.now))) in
    λ i. record { accepted = accepted i; exchanged = exchanged i }

pub returns-clause-sets : goal.returns-clause-sets
returns-clause-sets c =
    let names = names_of c.args.known in
    let list = option_copied c.args.list in
    let found = c.in_ok-found.found in
    let rows_are : map (λ row. row.now) c.as_slice-2.result.now ≡ rows c.args.text.now = ap (map (λ row. row.now)) c.as_slice-2.ensures.value ∙ c.in_ok-rows.ensures in
    let are = subst (λ (ls : List (List ℕ)). AreFound names list c.args.path.now ls found) rows_are c.in_ok-found.ensures in
    c.count_sets.ensures ∙ ap (set_count names.sets) (ap (map (λ set. set.items)) c.as_slice-3.ensures.value ∙ are.sets ∙ sym (map-map (λ (line : Named). line.set) (named_by names list) (rows c.args.text.now)))

pub returns-clause-stale_count : goal.returns-clause-stale_count
returns-clause-stale_count c =
    let names = names_of c.args.known in
    let list = option_copied c.args.list in
    let path = c.args.path.now in
    let found = c.in_ok-found.found in
    let rows_are : map (λ row. row.now) c.as_slice-2.result.now ≡ rows c.args.text.now = ap (map (λ row. row.now)) c.as_slice-2.ensures.value ∙ c.in_ok-rows.ensures in
    let are = subst (λ (ls : List (List ℕ)). AreFound names list path ls found) rows_are c.in_ok-found.ensures in
    sym (length-map found.stale.items fault_view) ∙ ap length are.stale ∙ stale_counted names list path 0 (rows c.args.text.now)
