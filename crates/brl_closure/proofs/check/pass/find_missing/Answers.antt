use Rattle.std.proofs.Common.{◌≡◌, ◌<◌, ℕ, List, length, sym, subst, arith}
use Rattle.brl_pairs.specs.Listed.{HaveCells, edges_with}
use Rattle.brl_parts.specs.Parts.{AreKeptParts}
use Rattle.brl_pairs.proofs.ListedLaws.{edges_of_state, have_cells}
use Rattle.brl_closure.specs.Alike.{AreFirstTwo}
use Rattle.brl_closure.specs.Pass.{IsMissingBelow}
use Rattle.brl_closure.specs.Passed.{ArePassed}
use Rattle.brl_closure.specs.Refusals.{MissesState}
use Rattle.brl_closure.proofs.Closing.{step_within}
use Rattle.brl_closure.proofs.LeastLaws.{one_more}
use Rattle.brl_closure.proofs.Listing.{kept_or_none, none_kept}
use Rattle.brl_closure.proofs.MissingAt.{no_state_missing}
use Rattle.brl_closure.proofs.PassedLaws.{none_passed, still_all_passed, stays_sorted}
use Rattle.brl_closure.proofs.check.pass.find_missing.Goals as goal

pub loop-state-init : goal.loop-state-init
loop-state-init g c = record {
  missing = ((λ k l r lt gap. absurd (omega (arith, lt))), (λ k r h. absurd (let lt : h.state < 0 = h.below in omega (arith, lt))));
  passed = subst (ArePassed c.args.body.now.pairs c.new-kept.result.cells) (sym c.new-earlier.ensures) (none_passed c.args.body.now.pairs c.new-kept.result.cells);
  steps = λ k rule lt gap. absurd (omega (arith, lt));
  kept = none_kept (g.M.Parted.steps_of c.args.machine.now) c.args.body.now.states c.new-kept.result.cells c.new-kept.result.parts c.new-kept.ensures;
}

pub edges_of-requires-clause-kept : goal.edges_of-requires-clause-kept
edges_of-requires-clause-kept g c =
    kept_or_none (g.M.Parted.steps_of c.args.machine.now) c.args.body.now.states c.loop-state.kept.cells c.forget_parts.new.self.cells c.forget_parts.ensures.cells c.loop-state.kept.parts c.forget_parts.new.self.parts c.forget_parts.ensures.parts c.loop-state.invariant.kept

pub sort_first_two-requires : goal.sort_first_two-requires
sort_first_two-requires g c =
    subst (λ (own : List (List ℕ)). HaveCells own c.in_ok-edges.edges.items) (sym c.rank.ensures)
    (have_cells (g.M.Machine.behaviour c.args.machine.now) c.args.body.now.states c.edges_of.new.kept.cells c.loop-state.state c.in_ok-edges.edges.items c.in_ok-edges.ensures.edges)

pub missing_after-requires-clause-edges : goal.missing_after-requires-clause-edges
missing_after-requires-clause-edges g c = record {
  edges = edges_with c.edges_of.new.kept.cells c.in_ok-edges.edges.items;
  are_edges = edges_of_state (g.M.Machine.behaviour c.args.machine.now) c.args.body.now.states c.edges_of.new.kept.cells c.loop-state.state c.in_ok-edges.edges.items c.in_ok-edges.ensures.edges;
  first_two = subst (λ (own : List (List ℕ)). AreFirstTwo c.args.excused.now (edges_with own c.in_ok-edges.edges.items) c.in_ok-sorted.sorted.edges) c.rank.ensures c.in_ok-sorted.ensures.first_two;
}

pub missing_after-requires-clause-passed : goal.missing_after-requires-clause-passed
missing_after-requires-clause-passed g c =
    still_all_passed c.loop-state.kept.cells c.in_ok-sorted.sorted.cells
    (stays_sorted c.loop-state.kept.cells c.forget_parts.new.self.cells c.edges_of.new.kept.cells c.rank.new.self c.in_ok-sorted.sorted.cells c.forget_parts.ensures.cells c.in_ok-edges.ensures.cells c.rank.ensures c.in_ok-sorted.ensures.cells)
    c.args.body.now.pairs c.loop-state.earlier.lists.items c.loop-state.invariant.passed

pub loop-state-preserved : goal.loop-state-preserved
loop-state-preserved g c =
    let m = g.M.Machine.behaviour c.args.machine.now in
    let body = c.args.body.now in
    let state = c.loop-state.state in
    let edges = edges_of_state m body.states c.edges_of.new.kept.cells state c.in_ok-edges.edges.items c.in_ok-edges.ensures.edges in
    record {
      missing = c.in_ok-missing.ensures.missing;
      passed = subst (λ (own : List (List ℕ)). ArePassed body.pairs own c.keep_passed.new.earlier.lists.items) c.in_ok-sorted.ensures.cells
          (c.in_ok-keep_passed.ensures body.pairs c.in_ok-missing.ensures.listed
          (still_all_passed c.loop-state.kept.cells c.in_ok-sorted.sorted.cells
          (stays_sorted c.loop-state.kept.cells c.forget_parts.new.self.cells c.edges_of.new.kept.cells c.rank.new.self c.in_ok-sorted.sorted.cells c.forget_parts.ensures.cells c.in_ok-edges.ensures.cells c.rank.ensures c.in_ok-sorted.ensures.cells)
          body.pairs c.loop-state.earlier.lists.items c.loop-state.invariant.passed));
      steps = λ k rule lt gap. one_more (λ n. (r : ℕ) × MissesState m body n r) state (λ n below h. c.loop-state.invariant.steps n h.0 below h.1)
          (λ h. no_state_missing m body state (edges_with c.edges_of.new.kept.cells c.in_ok-edges.edges.items) edges h.0 h.1) k lt (rule, gap);
      kept = subst (λ (own : List (List ℕ)). AreKeptParts (g.M.Parted.steps_of c.args.machine.now) body.states own c.edges_of.new.kept.parts) (sym c.rank.ensures) c.in_ok-edges.ensures.kept;
    }

pub returns-clause-missing : goal.returns-clause-missing
returns-clause-missing g c =
    let body = c.args.body.now in
    let all : c.loop-state.state ≡ length body.states = omega (arith, c.state_count-state-end.ensures) in
    subst (λ (n : ℕ). IsMissingBelow (g.M.Machine.behaviour c.args.machine.now) c.args.excused.now body n c.loop-state.missing) all c.loop-state.invariant.missing

pub returns-clause-complete : goal.returns-clause-complete
returns-clause-complete g c = λ number rule gap.
    c.loop-state.invariant.steps number rule (omega (arith, step_within (g.M.Machine.behaviour c.args.machine.now) c.args.body.now number (rule, gap), c.state_count-state-end.ensures)) gap
