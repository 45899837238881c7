use Rattle.std.proofs.Common.{◌≡◌, ◌∙◌, IfOk, List, ap, flat_map, map, subst}
use Rattle.brl_acting.specs.WholeTable.{acting_among, acting_view, continued_places, file_view, left_out_place, place_view, table_line}
use Rattle.brl_acting.specs.Words.{TableLineView, table_line_view}
use Rattle.brl_lines.specs.Views.{line_view}
use Rattle.brl_table.specs.Survey.{faulty_line_view}
use Rattle.brl_acting.proofs.whole_table.acting_among.Goals as goal

pub returns : goal.returns
returns c =
    let lines = map line_view c.args.lines.now in
    let left = map left_out_place (map faulty_line_view c.args.left_out.now) in
    let others = flat_map continued_places (map file_view c.args.files.now) in
    let left_is : map place_view c.as_slice.result.now ≡ left = ap (map place_view) c.as_slice.ensures.value ∙ c.in_ok-left_out.ensures in
    let others_are : map place_view c.as_slice-2.result.now ≡ others = ap (map place_view) c.as_slice-2.ensures.value ∙ c.in_ok-continued.ensures in
    let table_lines : map table_line_view c.as_slice-3.result.now ≡ map (table_line left others) lines =
    ap (map table_line_view) c.as_slice-3.ensures.value ∙ c.in_ok-table_lines.ensures ∙ (λ j. map (table_line (left_is j) (others_are j)) lines) in
    subst (λ (ls : List TableLineView). IfOk c.acting_of_lines.result (λ found. map acting_view found.items ≡ acting_among ls c.args.alphabet.now)) table_lines c.acting_of_lines.ensures
