use Rattle.std.proofs.Common.{◌≡◌, ℕ, List, [], ◌∷◌, ◌++◌, length, map, Some, slice_get, refl, sym, ap, ◌∙◌, subst, arith}
use Rattle.std.proofs.lemmas.Iterator.Consumers.{YieldsList-turn, YieldsList-end}
use Rattle.std.proofs.lemmas.Iterator.Adapters.{YieldsList-from_vec}
use Rattle.brl_pairs.specs.Listed.{AreListedEdges}
use Rattle.brl_pairs.specs.declared.step.Step.{Step}
use Rattle.brl_pairs.specs.declared.edge.ListedEdge.{ListedEdge}
use Rattle.brl_pairs.proofs.ListedLaws.{listed_push}
use Rattle.brl_pairs.proofs.Lists.{read_at}
use Rattle.brl_closure.proofs.Additions.{advances_trans}
use Rattle.brl_closure.proofs.Fresh.{map_itself}
use Rattle.brl_closure.proofs.search.finder.Finder.list_edges.Goals as goal

pub number_step-requires-clause-step : goal.number_step-requires-clause-step
number_step-requires-clause-step g c =
    let s = c.index-as_slice-number.result in
    let at : slice_get c.args.trail.now.states c.args.number ≡ Some s = read_at c.as_slice.result.now c.args.trail.now.states c.args.number s c.as_slice.ensures.members (omega (arith, ap length c.as_slice.ensures.members)) c.index-as_slice-number.is in
    let t = YieldsList-turn (YieldsList-from_vec {s = c.into_iter-step-iterator.result} c.in_ok-listed.listed.items c.into_iter-step-iterator.ensures.into_iter_gives.0 (c.into_iter-step-iterator.ensures.into_iter_gives.1 ∙ c.in_ok-listed.listed.ok.0)) c.loop-step.yielded c.loop-step.step-iterator c.loop-step.yielded_by c.next.result c.next.new.self c.in-Some.step c.in-Some.is c.next.ensures.steps in (
      length c.loop-step.yielded,
      record {
        state = s;
        at = c.loop-step.invariant.advances.1.states c.args.number s at;
        listed = read_at c.in_ok-listed.listed.items ((g.M.Machine.behaviour c.args.self.now.machine.now).steps s) (length c.loop-step.yielded) c.in-Some.step c.in_ok-listed.ensures t.0 t.1;
      },
    )

pub loop-step-preserved : goal.loop-step-preserved
loop-step-preserved g c =
    let states = c.number_step.new.trail.states in
    let cells = c.number_step.new.cells in
    record {
      advances = advances_trans g.M.Machine.behaviour c.args.self.now c.args.trail.now c.loop-step.trail c.number_step.new.trail c.loop-step.invariant.advances c.in_ok-edge.ensures.advances;
      pairs = c.in_ok-edge.ensures.pairs ∙ c.loop-step.invariant.pairs;
      cells = λ k own at. c.in_ok-edge.ensures.cells k own (c.loop-step.invariant.cells k own at);
      listed = subst (λ (es : List ListedEdge). AreListedEdges states cells (c.loop-step.yielded ++ c.in-Some.step ∷ []) es) (sym c.in_ok-push.ensures.items)
          (listed_push c.loop-step.trail.states states c.in_ok-edge.ensures.advances.1.states c.loop-step.cells cells c.in_ok-edge.ensures.cells c.loop-step.yielded c.loop-step.edges.items c.in-Some.step c.in_ok-edge.edge c.loop-step.invariant.listed c.in_ok-edge.ensures.edge);
    }

pub returns-clause-edges : goal.returns-clause-edges
returns-clause-edges g c =
    let s = c.index-as_slice-number.result in
    let at : slice_get c.args.trail.now.states c.args.number ≡ Some s = read_at c.as_slice.result.now c.args.trail.now.states c.args.number s c.as_slice.ensures.members (omega (arith, ap length c.as_slice.ensures.members)) c.index-as_slice-number.is in
    let t = YieldsList-end (YieldsList-from_vec {s = c.into_iter-step-iterator.result} c.in_ok-listed.listed.items c.into_iter-step-iterator.ensures.into_iter_gives.0 (c.into_iter-step-iterator.ensures.into_iter_gives.1 ∙ c.in_ok-listed.listed.ok.0)) c.loop-step.yielded c.loop-step.step-iterator c.loop-step.yielded_by c.next.result c.next.new.self c.in-None.is c.next.ensures.steps in
    record {
      state = s;
      at = c.loop-step.invariant.advances.1.states c.args.number s at;
      listed = subst (λ (l : List (Step g.row.M-State.Denot)). AreListedEdges c.loop-step.trail.states c.loop-step.cells l c.loop-step.edges.items) (sym (map_itself c.loop-step.yielded) ∙ t.0 ∙ c.in_ok-listed.ensures) c.loop-step.invariant.listed;
    }
