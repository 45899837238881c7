use Rattle.std.proofs.Common.{◌≡◌, ◌∙◌, ◌++◌, ap, append-nil, length, map, min, string_bytes, sym, zip}
use Rattle.std.proofs.lemmas.Simd.{map-map}
use Rattle.std.proofs.lemmas.Slice.Zip.{zip_end}
use Rattle.brl_lines.specs.Views.{location_view}
use Rattle.brl_cut.specs.Files.{edit_view, file_view}
use Rattle.brl_cut.specs.Marks.{mark, marked_file}
use Rattle.brl_cut.proofs.PlaceLemmas.{zip-none}
use Rattle.brl_cut.proofs.cutting.mark_files.Goals as goal

pub returns : goal.returns
returns c =
    let paths = c.args.of.now.cut.paths.items in
    let files = c.args.of.now.cut.files.items in
    let edits = map edit_view c.in_ok-marks.marks.items in
    let marks : edits ≡ map mark (map location_view c.args.places.now) = c.in_ok-marks.ensures ∙ sym (map-map mark location_view c.args.places.now) in
    let before = map file_view c.loop-path.marked.items in
    let count = length c.loop-path.yielded in
    let pairs = c.into_iter-path-iterator.ensures.into_iter_gives in
    let first = ap (λ z. z.a.rest.now) pairs ∙ ap (λ i. i.rest.now) c.zip-path-items.ensures.first ∙ c.iter.ensures.rest ∙ c.deref.ensures.value in
    let second = ap (λ z. z.b.rest.now) pairs ∙ c.zip-path-items.ensures.second.0 in
    let ended : count ≡ min (length paths) (length files) =
    zip_end paths files c.loop-path.yielded c.into_iter-path-iterator.result c.loop-path.path-iterator c.next.new.self c.next.result first second c.loop-path.yielded_by c.in-None.is c.next.ensures.steps in
    sym (append-nil before) ∙ ap (λ left. before ++ map (marked_file edits) left) (sym (zip-none paths files count ended)) ∙ c.loop-path.invariant
    ∙ (λ j. map (marked_file (marks j)) (zip (map string_bytes paths) (map file_view files)))
