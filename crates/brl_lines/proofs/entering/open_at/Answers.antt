use Rattle.std.proofs.Common.{◌∙◌, ap, false, string_bytes, true}
use Rattle.std.proofs.lemmas.Result.{MatchResult-weaker, err_from_is_err_and}
use Rattle.brl_lines.specs.Gathered.{walk_with}
use Rattle.brl_lines.specs.Views.{location_ref_view}
use Rattle.brl_lines.specs.declared.fault.LoadFaultKind.TheVariants as kinds
use Rattle.brl_lines.specs.declared.way.IncludeReason.TheVariants as reasons
use Rattle.brl_lines.proofs.EnterLemmas.{at-found, at-refused, at-takes, follows-deep, stopped}
use Rattle.brl_lines.proofs.entering.open_at.Goals as goal

pub returns-then-comes_again-clause-err : goal.returns-then-comes_again-clause-err
returns-then-comes_again-clause-err c gives root given =
    let table = c.args.table.now in
    let place = location_ref_view c.args.include.place in
    let name = c.args.include.name.now in
    let finds = rw c.as_str-at.ensures.value at c.in-Some.ensures in
    let is = rw c.as_str-at.ensures.value at c.if-comes_again.ensures in
    MatchResult-weaker c.stop-then-comes_again.result (rw c.as_str-at.ensures.value at c.stop-then-comes_again.ensures.err) (λ inner h. h)
    (at-refused gives c.args.policy root c.args.file.now table place name (string_bytes c.args.path) given _ (λ e. cc)
    (λ loaded answer extends lines. at-found gives c.args.policy root c.args.file.now table place name
    (string_bytes c.args.path) c.in-Some.index finds true is answer extends lines
    ∙ ap (λ b. stopped gives c.args.policy root c.args.file.now table place name (string_bytes c.args.path) b reasons.Repeated kinds.Cycle
    (walk_with lines table.way)) loaded))

pub returns-in_err-inner-clause-err : goal.returns-in_err-inner-clause-err
returns-in_err-inner-clause-err c gives root given =
    let file = c.args.file.now in
    let table = c.args.table.now in
    let place = location_ref_view c.args.include.place in
    let name = c.args.include.name.now in
    let finds = rw c.as_str-at.ensures.value at c.in-Some.ensures in
    let is = rw c.as_str-at.ensures.value at c.if-comes_again.ensures in
    let p = err_from_is_err_and c.from_residual.result c.from_residual.ensures.1 in
    rw (p.1, p.2)
    (at-refused gives c.args.policy root file table place name (string_bytes c.args.path) given _ (λ e. cc)
    (λ deep answer extends lines. at-found gives c.args.policy root file table place name
    (string_bytes c.args.path) c.in-Some.index finds false is answer extends lines
    ∙ follows-deep c.args.policy gives.folders root file deep answer place name
    (string_bytes c.args.path) _ _) c.in_err-inner.field-0.0 c.in_err-inner.ensures.err)

pub returns-clause-ok : goal.returns-clause-ok
returns-clause-ok c gives root given =
    let place = location_ref_view c.args.include.place in
    let finds = rw c.as_str-at.ensures.value at c.in-Some.ensures in
    let is = rw c.as_str-at.ensures.value at c.if-comes_again.ensures in
    at-takes gives c.args.policy root c.args.file.now c.args.table.now place c.args.include.name.now given c.open.new.way c.args.path c.in-Some.index finds
    (at-found gives c.args.policy root c.args.file.now c.args.table.now place c.args.include.name.now
    (string_bytes c.args.path) c.in-Some.index finds false is) c.in_ok-inner.inner c.in_ok-inner.ensures.ok
