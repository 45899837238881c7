use Rattle.std.proofs.Common.{◌≡◌, List, arith, get_or, inl, inr, subst, sym, take, take_all, ◌∙◌}
use Rattle.std.specs.List.{Contains}
use Rattle.std.proofs.lemmas.List.Elements.{Contains-push_cases}
use Rattle.std.proofs.lemmas.Option.{slice_get-get_or}
use Rattle.brl_contexts.specs.Contexts.{no_edge}
use Rattle.brl_pairs.proofs.Lists.{take-got}
use Rattle.brl_pairs.proofs.Numbered.{contained}
use Rattle.brl_pairs.specs.declared.edge.ListedEdge.{ListedEdge}
use Rattle.brl_unused.proofs.Exploring.{adds_kept, enters_one}
use Rattle.brl_unused.proofs.found.enter.Goals as goal

pub add-requires-clause-within : goal.add-requires-clause-within
add-requires-clause-within c =
    let edges = c.args.edges.now in
    let i = c.loop-edge.edge-index in
    let e = get_or edges i no_edge in
    let low = c.requires.within e (contained edges i e (slice_get-get_or edges i no_edge c.loop-edge-test.true)) in
    omega (arith, low, c.loop-edge.invariant.count)

pub returns-then-len-limit-clause-enters : goal.returns-then-len-limit-clause-enters
returns-then-len-limit-clause-enters c =
    let edges = c.args.edges.now in
    let i = c.loop-edge.edge-index in
    let e = get_or edges i no_edge in
    enters_one edges c.args.order.now.items c.loop-edge.order.items c.add.new.order.items e (contained edges i e (slice_get-get_or edges i no_edge c.loop-edge-test.true)) c.in_ok-add.ensures.adds c.loop-edge.invariant.enters

pub loop-edge-preserved : goal.loop-edge-preserved
loop-edge-preserved c =
    let edges = c.args.edges.now in
    let i = c.loop-edge.edge-index in
    let e = get_or edges i no_edge in
    let at = slice_get-get_or edges i no_edge c.loop-edge-test.true in
    let old = c.loop-edge.order.items in
    let new = c.add.new.order.items in
    let adds = c.in_ok-add.ensures.adds in
    record {
      marked = c.in_ok-add.ensures.marked;
      count = c.in_ok-add.ensures.count ∙ c.loop-edge.invariant.count;
      enters = enters_one edges c.args.order.now.items old new e (contained edges i e at) adds c.loop-edge.invariant.enters;
      all = λ x one. elim (Contains-push_cases (take i edges) e x (subst (λ (xs : List ListedEdge). Contains xs x) (take-got edges i e at) one)) [
        | inl early ↦ adds_kept old e.next new adds x.next (c.loop-edge.invariant.all x early)
        | inr same ↦ subst (λ (y : ListedEdge). Contains new y.next) same c.in_ok-add.ensures.there
      ];
      few = (let size = c.len.ensures in let test = c.if-len-limit.false in omega (arith, size, test));
    }

pub returns-clause-all : goal.returns-clause-all
returns-clause-all c = λ whole e one.
    let edges = c.args.edges.now in
    let i = c.loop-edge.edge-index in
    let all : take i edges ≡ edges = take_all i edges (omega (arith, c.loop-edge-test.false)) in
    c.loop-edge.invariant.all e (subst (λ (xs : List ListedEdge). Contains xs e) (sym all) one)
