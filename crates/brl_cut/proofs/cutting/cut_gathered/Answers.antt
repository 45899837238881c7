use Rattle.std.proofs.Common.{◌≡◌, ◌∙◌, ◌++◌, ℕ, List, ap, filter, length, map, string_bytes, subst, subst₂, sym}
use Rattle.std.proofs.lemmas.List.{map-append}
use Rattle.std.proofs.lemmas.Simd.{map-map}
use Rattle.std.proofs.lemmas.Result.{err_from_is_err_and}
use Rattle.brl_failure.specs.Raised.{if_err-raised, raised_is}
use Rattle.brl_lines.specs.GatherFaults.{gathered_view}
use Rattle.brl_lines.specs.Gathered.{left_view}
use Rattle.brl_lines.specs.Lines.{LocationView, location_of}
use Rattle.brl_lines.specs.Views.{location_view}
use Rattle.brl_table.specs.Survey.{FaultyLineView, faulty_line_view}
use Rattle.brl_cut.specs.Cuts.{IsUncut, IsUnloaded, all_names, around_of, finished, home_of, include_fault, start, without_includes, written_files}
use Rattle.brl_cut.specs.Edits.{Texts, edited_files}
use Rattle.brl_cut.specs.Files.{edit_view, file_view}
use Rattle.brl_cut.specs.Letsigns.{made_name}
use Rattle.brl_cut.specs.Rewriting.{Around, RewrittenView, is_rewritten, rewritten}
use Rattle.brl_cut.specs.Rounds.{SettlesTo}
use Rattle.brl_cut.specs.Settling.{fault_edit, lines_among}
use Rattle.brl_cut.proofs.cutting.cut_gathered.Goals as goal

pub returns-clause-whole : goal.returns-clause-whole
returns-clause-whole c =
    let started = c.in_ok-started.started in
    let was = raised_is _ c.start_cut.result c.raise.result started c.raise.ensures c.in_ok-started.was in
    ap (λ (fs : Texts). lines_among (map string_bytes c.args.folders.now) fs c.args.root.now) (sym c.in_ok-files.ensures) ∙ rw was at c.start_cut.ensures.whole

pub returns-clause-cut : goal.returns-clause-cut
returns-clause-cut c =
    let root = c.args.root.now in
    let folders = map string_bytes c.args.folders.now in
    let dir = c.args.dir.now in
    let gathered = gathered_view c.args.gathered.now in
    let new = start c.args.rewrite folders root gathered in
    let started = c.in_ok-started.started in
    let was = raised_is _ c.start_cut.result c.raise.result started c.raise.ensures c.in_ok-started.was in
    let home : c.home_of.result.now ≡ home_of gathered.files root = c.home_of.ensures ∙ (λ j. home_of (map file_view (c.as_slice-all.ensures.value j)) root) in
    let is : rewritten c.args.rewrite (record { folders = folders; names = map string_bytes c.as_slice.result.now; root = root; home = c.home_of.result.now }) (map file_view c.in_ok-files.files.items) ≡ new =
    λ j. rewritten c.args.rewrite (record { folders = folders; names = map string_bytes (c.as_slice.ensures.value j); root = root; home = home j }) (c.in_ok-files.ensures j) in
    let edits : map edit_view started.edits.items ≡ new.edits = rw was at c.start_cut.ensures.edits ∙ ap (λ (r : RewrittenView). r.edits) is in
    let made : map file_view c.as_slice-made.result.now ≡ new.made =
    ap (map file_view) c.as_slice-made.ensures.value ∙ rw was at c.start_cut.ensures.made ∙ ap (λ (r : RewrittenView). r.made) is in
    let settled = started.settled in
    let settles = subst (λ (fs : Texts). SettlesTo folders root fs settled) (ap (λ (r : RewrittenView). r.files) is) (rw was at c.start_cut.ensures.settled) in
    let found = map faulty_line_view settled.found.items in
    let texts : map file_view c.in_ok-texts.texts.items ≡ finished new found gathered =
    c.in_ok-texts.ensures ∙ (λ j. edited_files (edits j ++ map fault_edit (map faulty_line_view (c.as_slice-6.ensures.value j))) (without_includes gathered ++ made j)) in
    let names : map string_bytes c.in_ok-names.names.items ≡ all_names new gathered =
    c.in_ok-names.ensures ∙ (λ j. map string_bytes (c.as_slice-4.ensures.value j) ++ map (λ (file : List ℕ × List ℕ). made_name) (made j)) in
    let written = c.in_ok-placed.ensures
    ∙ (λ j. written_files dir ((ap (map string_bytes) c.as_slice-7.ensures.value ∙ names) j) ((ap (map file_view) c.as_slice-8.ensures.value ∙ texts) j)) in
    let places = ap (map location_view) c.as_slice-10.ensures.value ∙ settles.3 in
    record {
      settled = settles.1;
      found = found;
      lines = settles.0;
      settles = settles.2;
      files_are = written;
      paths_are = c.in_ok-paths.ensures ∙ (λ j. map (λ (file : List ℕ × List ℕ). file.0) (map file_view (c.as_slice-5.ensures.value j) ++ made j));
      left_out_are = ap (map faulty_line_view) c.in_ok-append.ensures.items ∙ map-append faulty_line_view c.in_ok-left_out.left_out.items settled.found.items
          ∙ ap (λ (xs : List FaultyLineView). xs ++ found) (c.in_ok-left_out.ensures ∙ ap (map include_fault) (ap (map left_view) c.as_slice-9.ensures.value));
      kept_are = c.in_ok-line_files.ensures ∙ ap (map (λ (place : LocationView). place.file)) places ∙ map-map (λ (place : LocationView). place.file) location_of settles.0;
      rewritten_is = c.count_rewritten-rewritten.ensures
          ∙ (λ j. length (filter (is_rewritten ((ap (map edit_view) c.as_slice-2.ensures.value ∙ edits) j)) ((ap (map location_view) c.as_slice-3.ensures.value ∙ settles.3) j)));
    }

pub returns-in_err-started-clause-fault : goal.returns-in_err-started-clause-fault
returns-in_err-started-clause-fault c =
    let root = c.args.root.now in
    let folders = map string_bytes c.args.folders.now in
    let gathered = gathered_view c.args.gathered.now in
    let uncut = IsUncut c.args.rewrite folders root c.args.dir.now gathered in
    let home : c.home_of.result.now ≡ home_of gathered.files root = c.home_of.ensures ∙ (λ j. home_of (map file_view (c.as_slice-all.ensures.value j)) root) in
    let around : record { folders = folders; names = map string_bytes c.as_slice.result.now; root = root; home = c.home_of.result.now } ≡ around_of folders root gathered =
    λ j. record { folders = folders; names = map string_bytes (c.as_slice.ensures.value j); root = root; home = home j } in
    let told = if_err-raised _ (IsUnloaded c.args.rewrite (record { folders = folders; names = map string_bytes c.as_slice.result.now; root = root; home = c.home_of.result.now }) (map file_view c.in_ok-files.files.items)) uncut
    c.start_cut.result c.raise.result c.raise.ensures c.start_cut.ensures.fault
    (λ one other same h. subst uncut (sym same) (subst₂ (λ (a : Around) (fs : Texts). IsUnloaded c.args.rewrite a fs one) around c.in_ok-files.ensures h)) in
    let p = err_from_is_err_and c.from_residual-in_err-started.result c.from_residual-in_err-started.ensures.1 in
    rw (p.1, p.2) (rw c.in_err-started.was at told)
