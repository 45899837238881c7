use Rattle.std.proofs.Common.{◌≡◌, ◌++◌, ◌∷◌, [], ℕ, List, length, take, Some, slice_get, refl, sym, ◌∙◌, ap, subst}
use Rattle.std.proofs.lemmas.Iterator.Consumers.{YieldsList-end, YieldsList-so_far, YieldsList-turn}
use Rattle.std.proofs.lemmas.Iterator.Adapters.{YieldsList-from_vec}
use Rattle.std.proofs.lemmas.Result.{err_from_is_err_and}
use Rattle.brl_failure.specs.Raised.{if_fault-weaker}
use Rattle.brl_pairs.specs.Listed.{AreListedEdges}
use Rattle.brl_pairs.specs.Members.{IsMember}
use Rattle.brl_pairs.specs.declared.edge.ListedEdge.{ListedEdge}
use Rattle.brl_pairs.specs.declared.step.Step.{Step}
use Rattle.brl_pairs.proofs.ListedLaws.{listed_push}
use Rattle.brl_pairs.proofs.Lists.{read_at}
use Rattle.brl_closure.specs.Listing.{IsFirstMissing}
use Rattle.brl_closure.proofs.Fresh.{map_itself}
use Rattle.brl_closure.proofs.Listing.{first_missing}
use Rattle.brl_closure.proofs.check.edges.edges_of_steps.Goals as goal

pub loop-step-preserved : goal.loop-step-preserved
loop-step-preserved g c =
    let states = c.args.body.now.states in
    let cells = c.edge_of.new.cells in
    record {
      cells = λ k own at. c.in_ok-edge.ensures.cells k own (c.loop-step.invariant.cells k own at);
      listed = subst (λ (es : List ListedEdge). AreListedEdges states cells (c.loop-step.yielded ++ c.in-Some.step ∷ []) es) (sym c.in_ok-push.ensures.items)
          (listed_push states states (λ k s at. at) c.loop-step.cells cells c.in_ok-edge.ensures.cells c.loop-step.yielded c.loop-step.edges.items c.in-Some.step c.in_ok-edge.edge c.loop-step.invariant.listed c.in_ok-edge.ensures.edge);
    }

pub returns-in_err-edge-clause-missing : goal.returns-in_err-edge-clause-missing
returns-in_err-edge-clause-missing g c =
    let p = err_from_is_err_and c.from_residual-in_err-edge.result c.from_residual-in_err-edge.ensures.1 in
    let states = c.args.body.now.states in
    let steps = c.args.steps.items in
    let done = c.loop-step.yielded in
    let x = c.in-Some.step in
    let chain = YieldsList-from_vec {s = c.into_iter-step-iterator.result} steps c.into_iter-step-iterator.ensures.into_iter_gives.0 (c.into_iter-step-iterator.ensures.into_iter_gives.1 ∙ c.args.steps.ok.0) in
    let t = YieldsList-turn chain done c.loop-step.step-iterator c.loop-step.yielded_by c.next.result c.next.new.self x c.in-Some.is c.next.ensures.steps in
    let first : done ≡ take (length done) steps = sym (map_itself done) ∙ YieldsList-so_far chain done c.loop-step.step-iterator c.loop-step.yielded_by in
    let at = read_at steps steps (length done) x refl t.0 t.1 in
    rw (p.1, p.2) (if_fault-weaker (λ rule. (x.rule ≡ rule) × (IsMember states x.next → ⊥)) (IsFirstMissing states steps) c.in_err-edge.field-0.0
    (first_missing states c.loop-step.cells steps done c.loop-step.edges.items x first c.loop-step.invariant.listed at) c.in_err-edge.ensures.missing)

pub returns-in_err-edge-clause-cells : goal.returns-in_err-edge-clause-cells
returns-in_err-edge-clause-cells g c = λ k own at. c.in_err-edge.ensures.cells k own (c.loop-step.invariant.cells k own at)

pub returns-clause-edges : goal.returns-clause-edges
returns-clause-edges g c =
    let t = YieldsList-end (YieldsList-from_vec {s = c.into_iter-step-iterator.result} c.args.steps.items c.into_iter-step-iterator.ensures.into_iter_gives.0 (c.into_iter-step-iterator.ensures.into_iter_gives.1 ∙ c.args.steps.ok.0)) c.loop-step.yielded c.loop-step.step-iterator c.loop-step.yielded_by c.next.result c.next.new.self c.in-None.is c.next.ensures.steps in
    subst (λ (l : List (Step g.row.S.Denot)). AreListedEdges c.args.body.now.states c.loop-step.cells l c.loop-step.edges.items) (sym (map_itself c.loop-step.yielded) ∙ t.0) c.loop-step.invariant.listed
