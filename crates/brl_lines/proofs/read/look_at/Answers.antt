use Rattle.std.proofs.Common.{◌≡◌, ◌∙◌, ℕ, List, None, option_map, string_bytes, subst, sym}
use Rattle.std.proofs.lemmas.Result.{err_from_is_err_and}
use Rattle.std.specs.Map.{lookup}
use Rattle.std.specs.Prelude.{string_eq}
use Rattle.std.specs.Str.{bytes_eq}
use Rattle.indexmap.proofs.CallerLemmas.{insert_entry-new}
use Rattle.brl_lines.specs.Views.{location_ref_view}
use Rattle.brl_lines.proofs.FileLemmas.{not-read, read-refused, seen-before, seen-now}
use Rattle.brl_lines.proofs.read.look_at.Goals as goal

pub returns-in-Some-clause-ok : goal.returns-in-Some-clause-ok
returns-in-Some-clause-ok g c =
    seen-before (g.S.Source.gives c.args.source.now) c.args.files.now.entries c.args.path.now c.in-Some.file.now c.is_some.result c.requires (sym c.in-Some.ensures.value) c.is_some.ensures

pub returns-in_err-file-clause-err : goal.returns-in_err-file-clause-err
returns-in_err-file-clause-err g c =
    let p = err_from_is_err_and c.from_residual.result c.from_residual.ensures.1 in
    rw (p.1, p.2)
    (read-refused (g.S.Source.gives c.args.source.now) c.args.files.now.entries c.args.path.now (option_map location_ref_view c.args.place) c.requires
    (not-read c.args.files.now.entries c.args.path.now c.in_default.ensures.value) c.in_err-file.field-0.0 c.in_err-file.ensures.read)

pub returns-clause-ok : goal.returns-clause-ok
returns-clause-ok g c =
    let name = c.in_ok-from_str.field-0 in
    let absent : lookup (string_eq name) c.args.files.now.entries ≡ None =
    subst (λ (p : List ℕ). lookup (λ k. bytes_eq p (string_bytes k)) c.args.files.now.entries ≡ None) (sym c.in_ok-from_str.ensures.ok) (sym c.in_default.ensures.value) in
    let new = c.in_ok-insert.ensures.entries ∙ insert_entry-new string_eq c.args.files.now name c.in_ok-file.file absent in
    seen-now (g.S.Source.gives c.args.source.now) c.args.files.now.entries c.insert.new.self.entries c.args.path.now name c.in_ok-file.file _ c.requires
    (not-read _ c.args.path.now c.in_default.ensures.value) c.in_ok-from_str.ensures.ok c.in_ok-file.ensures.read new c.is_some-there.ensures
