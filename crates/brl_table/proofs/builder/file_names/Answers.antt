use Rattle.std.proofs.Common.{◌∙◌, ap, sym, map, take, string_bytes, position, bytes_eq}
use Rattle.brl_lines.specs.Views.{line_view}
use Rattle.brl_table.specs.Reading.{files_of}
use Rattle.brl_table.proofs.FileNames.{next-file, next-new_file, lines-more}
use Rattle.brl_table.proofs.builder.file_names.Goals as goal
use Rattle.brl_table.proofs.builder.file_names.Goals.{then-is_none+in_ok-from_str+in_ok-push, else-is_none}

pub loop-line-preserved : goal.loop-line-preserved
loop-line-preserved c =
    let line = line_view c.line-item.result in
    let lines = map line_view (take c.loop-line.line-index c.args.lines.now) in
    let more = lines-more c.args.lines.now c.loop-line.line-index c.line-item.result c.loop-line-test.true c.line-item.is in
    let found = c.place_of.ensures ∙ ap (position (λ other. bytes_eq line.file (string_bytes other))) c.as_slice.ensures.value in
    elim c.if-is_none.branch [
      | then-is_none+in_ok-from_str+in_ok-push w ↦
          (next-new_file c.loop-line.files.items c.if-is_none.files.items lines line c.place_of.result found c.is_none.result c.is_none.ensures w.if-is_none.true
          w.in_ok-from_str.field-0 w.in_ok-from_str.ensures.ok (ap (λ v. v.items) w.files-is ∙ w.in_ok-push.ensures.items) c.loop-line.invariant
          ∙ ap files_of (sym more))
      | else-is_none w ↦
          (next-file c.loop-line.files.items c.if-is_none.files.items lines line c.place_of.result found c.is_none.result c.is_none.ensures w.if-is_none.false
          (ap (λ v. v.items) w.files-is) c.loop-line.invariant ∙ ap files_of (sym more))
    ]
