use Rattle.std.proofs.Common.{◌≡◌, ◌∙◌, ◌++◌, ◌∷◌, [], None, Some, ap, append-nil, map, option_map, slice_get, sym}
use Rattle.std.specs.Option.{option_map_or}
use Rattle.std.proofs.lemmas.List.{map-append}
use Rattle.std.proofs.lemmas.Option.{slice_get-get_or, slice_get-map, slice_get_past}
use Rattle.brl_acting.specs.WholeTable.{acting_line, acting_view}
use Rattle.brl_acting.specs.Words.{table_line_view}
use Rattle.brl_acting.proofs.whole_table.push_line.Goals as goal

pub returns-in_ok-push : goal.returns-in_ok-push
returns-in_ok-push c =
    let lines = c.args.lines.now in
    let line = c.in-Some.line.now in
    let old = c.args.found.now.items in
    let new = c.in_ok-acting_line.field-0 in
    let some : slice_get (map table_line_view lines) c.args.place ≡ Some (table_line_view line) =
    slice_get-map table_line_view lines c.args.place
    ∙ ap (option_map table_line_view) (slice_get-get_or lines c.args.place line c.in-Some.ensures.lookup.3.0 ∙ ap Some (sym c.in-Some.ensures.lookup.1)) in
    ap (map acting_view) c.in_ok-push.ensures.items ∙ map-append acting_view old (new ∷ [])
    ∙ ap (λ a. map acting_view old ++ a ∷ []) c.in_ok-acting_line.ensures
    ∙ sym (ap (λ o. map acting_view old ++ option_map_or (λ l. acting_line l ∷ []) o []) some)

pub returns-in_default : goal.returns-in_default
returns-in_default c =
    let lines = c.args.lines.now in
    let old = map acting_view c.args.found.now.items in
    let none : slice_get (map table_line_view lines) c.args.place ≡ None = slice_get-map table_line_view lines c.args.place ∙ ap (option_map table_line_view) (slice_get_past lines c.args.place c.in_default.ensures.lookup.3) in
    sym (ap (λ o. old ++ option_map_or (λ line. acting_line line ∷ []) o []) none ∙ append-nil old)
