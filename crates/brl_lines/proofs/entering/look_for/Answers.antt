use Rattle.std.proofs.Common.{◌≡◌, ◌∙◌, ◌⊎◌, inl, inr, ◌<◌, arith, false, length, nat_lt, refl, rules, string_bytes, sym, true}
use Rattle.std.proofs.lemmas.Result.{IfOk-weaker, MatchResult-weaker, err_from_is_err_and}
use Rattle.brl_lines.specs.Gathered.{way_view}
use Rattle.brl_lines.specs.Lines.{gathers, most_includes}
use Rattle.brl_lines.specs.Views.{location_ref_view}
use Rattle.brl_lines.specs.declared.expand.Expansion.{Expansion}
use Rattle.brl_lines.proofs.EnterLemmas.{found-refused, found-takes, search-refused}
use Rattle.brl_lines.proofs.entering.look_for.Goals as goal
use Rattle.brl_lines.proofs.entering.look_for.Goals.{else-file-eq0-via-then-file-eq0+else-not-gathers, else-file-eq0-via-else-file-eq0}

pub returns-in_err-path-clause-err : goal.returns-in_err-path-clause-err
returns-in_err-path-clause-err g c =
    let few : nat_lt most_includes (length (way_view c.args.table.now.way).paths) ≡ false = sym c.is_full.ensures ∙ c.if-is_full.false in
    let deeper : (0 < c.args.file.now.depth_left) ⊎ (gathers c.args.policy ≡ true) =
    elim c.else-file-eq0.branch [
      | else-file-eq0-via-then-file-eq0+else-not-gathers w ↦ inr (sym w.gathers.ensures ∙ w.if-not-gathers.false)
      | else-file-eq0-via-else-file-eq0 w ↦ inl (omega arith)
    ] in
    let p = err_from_is_err_and c.from_residual-in_err-path.result c.from_residual-in_err-path.ensures.1 in
    rw (p.1, p.2)
    (search-refused (g.S.Source.gives c.args.source.now) c.args.policy c.args.root.now c.args.file.now c.args.table.now
    (location_ref_view c.args.include.place) c.args.include.name.now few deeper c.in_err-path.field-0.0
    (rw (c.as_str-usual.ensures.value, c.in_ok-usual.ensures) at c.in_err-path.ensures.err) c.in_err-path.ensures.there)

pub returns : goal.returns
returns g c =
    let gives = g.S.Source.gives c.args.source.now in
    let old = c.args.table.now in
    let place = location_ref_view c.args.include.place in
    let mid : Expansion = record { files = c.locate.new.files; spans = old.spans; way = old.way } in
    let few : nat_lt most_includes (length (way_view old.way).paths) ≡ false = sym c.is_full.ensures ∙ c.if-is_full.false in
    let deeper : (0 < c.args.file.now.depth_left) ⊎ (gathers c.args.policy ≡ true) =
    elim c.else-file-eq0.branch [
      | else-file-eq0-via-then-file-eq0+else-not-gathers w ↦ inr (sym w.gathers.ensures ∙ w.if-not-gathers.false)
      | else-file-eq0-via-else-file-eq0 w ↦ inl (omega arith)
    ] in
    let locates = rw (c.as_str-usual.ensures.value, c.in_ok-usual.ensures) at c.in_ok-path.ensures.ok in
    let path = string_bytes c.in_ok-path.path in
    record {
      ok = IfOk-weaker c.open_at.result _ _
          (found-takes gives c.args.policy c.args.root.now c.args.file.now old place c.args.include.name.now few deeper mid path locates refl refl _)
          (c.open_at.ensures.ok gives c.args.root.now locates.grows.given);
      err = MatchResult-weaker c.open_at.result (c.open_at.ensures.err gives c.args.root.now locates.grows.given) (λ inner h. h)
          (found-refused gives c.args.policy c.args.root.now c.args.file.now old place c.args.include.name.now few deeper mid path locates refl);
      count = search rules;
      same = search rules;
    }
