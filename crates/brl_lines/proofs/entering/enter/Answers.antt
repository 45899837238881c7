use Rattle.std.proofs.Common.{◌≡◌, ◌∙◌, ℕ, List, None, Some, ap, cond, subst₂}
use Rattle.std.proofs.lemmas.Result.{MatchResult-weaker}
use Rattle.brl_lines.specs.Gathered.{way_view}
use Rattle.brl_lines.specs.Lines.{LocationView, passed}
use Rattle.brl_lines.specs.Steps.{FailsFrom, take_in}
use Rattle.brl_lines.specs.Views.{location_ref_view}
use Rattle.brl_lines.proofs.EnterLemmas.{looks-refused}
use Rattle.brl_lines.proofs.entering.enter.Goals as goal

pub returns-clause-err : goal.returns-clause-err
returns-clause-err g c =
    let gives = g.S.Source.gives c.args.source.now in
    let table = c.args.table.now in
    let file = c.args.file.now in
    let place = location_ref_view c.place.result in
    let name = c.as_str.result.now in
    let none : passed c.args.policy place name (way_view table.way) ≡ None =
    c.in_ok-passes.ensures.is ∙ ap (λ b. cond b (Some (way_view c.passes.new.self)) None) c.if-branch.false in
    MatchResult-weaker c.look_for.result c.look_for.ensures.err (λ inner h. h)
    (λ failure h.
    subst₂ (λ (p : LocationView) (n : List ℕ). FailsFrom gives table (λ answer. take_in c.args.policy gives.folders c.args.root.now file answer p n) failure) c.place.ensures c.as_str.ensures.value
    (looks-refused gives c.args.policy c.args.root.now file table place name c.passes.new.self none (c.in_ok-passes.ensures.same c.if-branch.false) failure h))
