use Rattle.std.proofs.Common.{◌++◌, ◌∷◌, ◌<◌, [], List, length, map, take, get_or, slice_get, sym, ◌∙◌, ap, subst, arith}
use Rattle.std.specs.Global.{Vec}
use Rattle.std.proofs.lemmas.List.{take_all}
use Rattle.std.proofs.lemmas.Option.{slice_get-get_or}
use Rattle.brl_pairs.specs.Listed.{edges_with}
use Rattle.brl_pairs.specs.declared.edge.ListedEdge.{ListedEdge}
use Rattle.brl_closure.specs.Alike.{AreFirstTwo, kind_with}
use Rattle.brl_closure.proofs.KeptSteps.{ArePassed, first_taken, none_passed, only_more, passed_kept_with, passed_left_with}
use Rattle.brl_closure.proofs.check.kinds.first_two_of_each_kind.Goals.{then-branch+in_ok-push, else-branch}
use Rattle.brl_closure.proofs.check.kinds.first_two_of_each_kind.Goals as goal

pub loop-edge-init : goal.loop-edge-init
loop-edge-init c = record {
  passed = λ cells. none_passed c.args.excused.now (edges_with cells c.new-kept.result.items) (map (kind_with cells) c.new-once.result) (map (kind_with cells) c.new-twice.result)
      (ap (edges_with cells) c.new-kept.ensures.items) (ap (map (kind_with cells)) c.new-once.ensures) (ap (map (kind_with cells)) c.new-twice.ensures);
  only = λ place e at. absurd (let wrong = sym (ap (λ (l : List ListedEdge). slice_get l place) c.new-kept.ensures.items) ∙ at in cc);
}

pub loop-edge-preserved : goal.loop-edge-preserved
loop-edge-preserved c =
    let edges = c.args.edges.now in
    let l = c.loop-edge in
    let k = l.edge-index in
    let d : ListedEdge = record { rule = 0; cells = 0; next = 0 } in
    let e : ListedEdge = get_or edges k d in
    let within : k < length edges = omega (arith, c.loop-edge-test.true) in
    let taken = first_taken edges k d within in
    let once = c.count.new.once in
    let twice = c.count.new.twice in
    elim c.if-branch.branch [
      | then-branch+in_ok-push w ↦ (
          let kept = ap (λ (v : Vec ListedEdge). v.items) w.kept-is ∙ w.in_ok-push.ensures.items in
          record {
            passed = λ cells. subst (λ (xs : List ListedEdge). ArePassed c.args.excused.now (edges_with cells xs) (edges_with cells c.if-branch.kept.items) (map (kind_with cells) once) (map (kind_with cells) twice)) (sym taken)
                (passed_kept_with c.args.excused.now cells (take k edges) l.kept.items l.once l.twice (l.invariant.passed cells) e c.in_ok-count.field-0 c.if-branch.kept.items once twice c.in_ok-count.ensures w.if-branch.true kept);
            only = λ place f at. only_more edges l.kept.items k e (slice_get-get_or edges k d within) l.invariant.only place f (ap (λ (xs : List ListedEdge). slice_get xs place) (sym kept) ∙ at);
          })
      | else-branch w ↦ (
          let kept = ap (λ (v : Vec ListedEdge). v.items) w.kept-is in
          record {
            passed = λ cells. subst (λ (xs : List ListedEdge). ArePassed c.args.excused.now (edges_with cells xs) (edges_with cells c.if-branch.kept.items) (map (kind_with cells) once) (map (kind_with cells) twice)) (sym taken)
                (subst (λ (xs : List ListedEdge). ArePassed c.args.excused.now (edges_with cells (take k edges ++ e ∷ [])) (edges_with cells xs) (map (kind_with cells) once) (map (kind_with cells) twice)) (sym kept)
                (passed_left_with c.args.excused.now cells (take k edges) l.kept.items l.once l.twice (l.invariant.passed cells) e c.in_ok-count.field-0 once twice c.in_ok-count.ensures w.if-branch.false));
            only = λ place f at. l.invariant.only place f (ap (λ (xs : List ListedEdge). slice_get xs place) (sym kept) ∙ at);
          })
    ]

pub returns-clause-first_two : goal.returns-clause-first_two
returns-clause-first_two c = λ cells.
    let edges = c.args.edges.now in
    subst (λ (xs : List ListedEdge). AreFirstTwo c.args.excused.now (edges_with cells xs) (edges_with cells c.loop-edge.kept.items)) (take_all c.loop-edge.edge-index edges (omega arith)) (c.loop-edge.invariant.passed cells).first_two
