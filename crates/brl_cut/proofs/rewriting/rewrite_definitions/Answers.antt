use Rattle.std.proofs.Common.{◌≡◌, ◌∙◌, ◌++◌, List, ap, map, sym}
use Rattle.std.proofs.lemmas.List.{map-append}
use Rattle.brl_lines.specs.Views.{line_view}
use Rattle.brl_cut.specs.Edits.{EditView, Texts, edited_files}
use Rattle.brl_cut.specs.Files.{edit_view, file_view}
use Rattle.brl_cut.specs.Rewriting.{after_base, after_noback, base_edits, lines_in, lines_or_none, noback_edits}
use Rattle.brl_cut.specs.RewritingViews.{around_view}
use Rattle.brl_cut.proofs.rewriting.rewrite_definitions.Goals as goal

pub returns : goal.returns
returns c =
    let around = around_view c.args.around in
    let files = map file_view c.args.files.now in
    let first : map edit_view c.in_ok-edits.edits.items ≡ noback_edits (lines_in around files) =
    c.in_ok-edits.ensures ∙ ap noback_edits (ap (map line_view) c.as_slice.ensures.value ∙ c.in_ok-lines.ensures.lines ∙ ap lines_or_none (sym c.requires)) in
    let after : map file_view c.in_ok-after.after.items ≡ after_noback around files =
    c.in_ok-after.ensures ∙ ap (λ (es : List EditView). edited_files es files) (ap (map edit_view) c.as_slice-2.ensures.value ∙ first) in
    let more : map edit_view c.in_ok-more.more.items ≡ base_edits (lines_in around (after_noback around files)) =
    c.in_ok-more.ensures ∙ ap (λ (fs : Texts). base_edits (lines_in around fs)) (ap (map file_view) c.as_slice-3.ensures.value ∙ after) in
    let new : map file_view c.in_ok-files.files.items ≡ after_base around (after_noback around files) =
    c.in_ok-files.ensures
    ∙ (λ j. edited_files ((ap (map edit_view) c.as_slice-5.ensures.value ∙ more) j) ((ap (map file_view) c.as_slice-4.ensures.value ∙ after) j)) in
    let edits = ap (map edit_view) c.in_ok-append.ensures.items ∙ map-append edit_view c.in_ok-edits.edits.items c.in_ok-more.more.items ∙ (λ j. first j ++ more j) in
    λ j. record { edits = edits j; made = map file_view (c.new-made.ensures.items j); files = new j }
