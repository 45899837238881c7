use Rattle.std.proofs.Common.{◌≡◌, ◌∙◌, ◌++◌, ap, append-nil, length, map, min, sym}
use Rattle.std.proofs.lemmas.Slice.Zip.{zip_end}
use Rattle.brl_cut.specs.Files.{file_view}
use Rattle.brl_lines.specs.Includes.{path_in}
use Rattle.brl_cut.proofs.PlaceLemmas.{zip-none}
use Rattle.brl_cut.proofs.placing.place_files.Goals as goal

pub returns : goal.returns
returns c =
    let names = c.args.names.now in
    let files = c.args.files.now in
    let before = map file_view c.loop-name.placed.items in
    let count = length c.loop-name.yielded in
    let pairs = c.into_iter-name-iterator.ensures.into_iter_gives in
    let first = ap (λ z. z.a.rest.now) pairs ∙ ap (λ i. i.rest.now) c.zip-name-items.ensures.first ∙ c.iter.ensures.rest in
    let second = ap (λ z. z.b.rest.now) pairs ∙ c.zip-name-items.ensures.second.0 in
    let ended : count ≡ min (length names) (length files) =
    zip_end names files c.loop-name.yielded c.into_iter-name-iterator.result c.loop-name.name-iterator c.next.new.self c.next.result first second c.loop-name.yielded_by c.in-None.is c.next.ensures.steps in
    sym (append-nil before) ∙ ap (λ left. before ++ map (λ entry. (path_in c.args.dir.now entry.0, entry.1.1)) left) (sym (zip-none names files count ended)) ∙ c.loop-name.invariant
