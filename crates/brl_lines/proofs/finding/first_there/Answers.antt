use Rattle.std.proofs.Common.{◌∙◌, ℕ, List, option_map, subst}
use Rattle.std.proofs.lemmas.Result.{err_from_is_err_and}
use Rattle.brl_lines.specs.Lines.{text_of}
use Rattle.brl_lines.specs.Steps.{Fails, Sees}
use Rattle.brl_lines.specs.Views.{location_ref_view}
use Rattle.brl_lines.proofs.FindingLemmas.{finds-here, finds-none, refused-here, skips-more}
use Rattle.brl_lines.proofs.finding.first_there.Goals as goal

pub returns-in_err-look_at-clause-err : goal.returns-in_err-look_at-clause-err
returns-in_err-look_at-clause-err g c =
    let gives = g.S.Source.gives c.args.source.now in
    let place = option_map location_ref_view c.args.place in
    let failure = c.in_err-look_at.field-0.0 in
    let p = err_from_is_err_and c.from_residual.result c.from_residual.ensures.1 in
    rw (p.1, p.2)
    (refused-here gives c.args.files.now.entries c.args.paths.now c.args.other.now c.loop-path.files.entries c.loop-path.path-index c.loop-path.invariant.skips
    c.path-item.result c.loop-path-test.true c.path-item.is c.requires.first place failure
    (subst (λ (path : List ℕ). Fails gives c.loop-path.files.entries (λ answer. text_of path place (answer path)) failure) c.as_str.ensures.value (rw c.loop-path.invariant.same at c.in_err-look_at.ensures.err))
    c.in_err-look_at.ensures.there)

pub returns-then-branch-clause-ok : goal.returns-then-branch-clause-ok
returns-then-branch-clause-ok g c =
    let gives = g.S.Source.gives c.args.source.now in
    let there = c.in_ok-look_at.field-0 in
    finds-here gives c.args.files.now.entries c.args.paths.now c.args.other.now c.loop-path.files.entries c.loop-path.path-index c.loop-path.invariant.skips
    c.path-item.result c.loop-path-test.true c.path-item.is c.requires.first c.look_at.new.files.entries there
    (subst (λ (path : List ℕ). Sees gives c.loop-path.files.entries c.look_at.new.files.entries path there) c.as_str.ensures.value (rw c.loop-path.invariant.same at c.in_ok-look_at.ensures.ok))
    c.if-branch.true _ (c.in_ok-from_str.ensures.ok ∙ c.as_str-then-branch.ensures.value)

pub loop-path-preserved : goal.loop-path-preserved
loop-path-preserved g c =
    let gives = g.S.Source.gives c.args.source.now in
    let there = c.in_ok-look_at.field-0 in
    let same = c.in_ok-look_at.ensures.same ∙ c.loop-path.invariant.same in
    let sees = subst (λ (path : List ℕ). Sees gives c.loop-path.files.entries c.look_at.new.files.entries path there) c.as_str.ensures.value (rw c.loop-path.invariant.same at c.in_ok-look_at.ensures.ok) in
    record {
      given = rw same sees.grows.given;
      skips = skips-more gives c.args.files.now.entries c.args.paths.now c.args.other.now c.loop-path.files.entries c.loop-path.path-index c.loop-path.invariant.skips
          c.path-item.result c.loop-path-test.true c.path-item.is c.requires.first c.look_at.new.files.entries there sees c.if-branch.false;
      count = c.in_ok-look_at.ensures.count ∙ c.loop-path.invariant.count;
      same = same;
    }

pub returns-clause-ok : goal.returns-clause-ok
returns-clause-ok g c = finds-none _ _ _ _ c.requires.first _ _ c.loop-path.invariant.skips c.loop-path-test.false _ c.in_ok-from_str-2.ensures.ok
