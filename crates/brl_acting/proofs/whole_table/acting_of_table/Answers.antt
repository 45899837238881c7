use Rattle.std.proofs.Common.{◌≡◌, ◌∙◌, ◌++◌, List, ap, flat_map, map}
use Rattle.brl_lines.specs.GatherFaults.{gathered_view}
use Rattle.brl_lines.specs.Gathered.{left_view}
use Rattle.brl_lines.specs.Views.{line_view}
use Rattle.brl_table.specs.Survey.{faulty_line_view}
use Rattle.brl_acting.specs.WholeTable.{ActingView, acting_in, continued_places, file_view, left_out_place, made_lines, missing_lines}
use Rattle.brl_acting.proofs.whole_table.acting_of_table.Goals as goal

pub returns : goal.returns
returns c =
    let gathered = gathered_view c.args.gathered.now in
    let left = map left_out_place (map faulty_line_view c.args.left_out.now) in
    let missing : missing_lines (map left_view c.as_slice.result.now) ≡ missing_lines gathered.left_out = ap (λ ls. missing_lines (map left_view ls)) c.as_slice.ensures.value in
    let lines : map line_view c.as_slice-2.result.now ≡ c.args.whole.now.lines ++ missing_lines gathered.left_out =
    ap (map line_view) c.as_slice-2.ensures.value ∙ c.in_ok-push_missing.ensures
    ∙ (λ j. c.in_ok-lines.ensures.lines j ++ missing j) in
    let files : flat_map continued_places (map file_view c.as_slice-3.result.now) ≡ flat_map continued_places gathered.files =
    ap (λ fs. flat_map continued_places (map file_view fs)) c.as_slice-3.ensures.value in
    let acting = c.in_ok-found.ensures ∙ (λ j. acting_in left (files j) (lines j) c.args.alphabet.now) in
    c.in_ok-push_made.ensures ∙ ap (λ (found : List ActingView). found ++ made_lines gathered (map faulty_line_view c.args.left_out.now)) acting
