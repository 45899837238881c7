use Rattle.std.proofs.Common.{◌≡◌, ◌∙◌, ◌++◌, List, ap, map, sym}
use Rattle.std.proofs.lemmas.List.{map-append}
use Rattle.std.proofs.lemmas.Simd.{map-map}
use Rattle.brl_lines.specs.GatherFaults.{gathered_view}
use Rattle.brl_table.specs.Survey.{faulty_line_view}
use Rattle.brl_cut.specs.Cuts.{without_includes}
use Rattle.brl_cut.specs.Edits.{EditView, edited, edited_files, prefix_in}
use Rattle.brl_cut.specs.Files.{edit_view, file_view}
use Rattle.brl_cut.specs.Settling.{fault_edit}
use Rattle.brl_cut.proofs.cutting.finish_files.Goals as goal

pub returns : goal.returns
returns c =
    let start = without_includes (gathered_view c.args.gathered.now) in
    let edits = map edit_view c.args.edits.items ++ map fault_edit (map faulty_line_view c.args.found.now) in
    let all : map edit_view c.append.new.self.items ≡ edits =
    ap (map edit_view) c.in_ok-append.ensures.items ∙ map-append edit_view c.args.edits.items c.in_ok-edits_of.field-0.items
    ∙ ap (λ (es : List EditView). map edit_view c.args.edits.items ++ es) (c.in_ok-edits_of.ensures ∙ sym (map-map fault_edit faulty_line_view c.args.found.now)) in
    let first : map file_view c.in_ok-new.new.items ≡ edited_files edits start =
    c.in_ok-new.ensures ∙ (λ j. edited_files ((ap (map edit_view) c.as_slice-2.ensures.value ∙ all) j) ((ap (map file_view) c.as_slice.ensures.value ∙ c.in_ok-files.ensures) j)) in
    let second : map file_view c.in_ok-edit_files.field-0.items ≡ edited_files edits (map file_view c.args.made.now) =
    c.in_ok-edit_files.ensures ∙ (λ j. edited_files ((ap (map edit_view) c.as_slice-3.ensures.value ∙ all) j) (map file_view c.args.made.now)) in
    ap (map file_view) c.in_ok-append-2.ensures.items ∙ map-append file_view c.in_ok-new.new.items c.in_ok-edit_files.field-0.items ∙ (λ j. first j ++ second j)
    ∙ sym (map-append (λ file. (file.0, edited (prefix_in edits file.0) file.1)) start (map file_view c.args.made.now))
