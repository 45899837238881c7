use Rattle.std.proofs.Common.{◌≡◌, ◌<◌, ℕ, List, All, length, Some, slice_get, sym, ap, subst, arith}
use Rattle.std.specs.List.{flat_map}
use Rattle.brl_pairs.proofs.Lists.{read_at}
use Rattle.brl_parts.specs.Parts.{AreByRule, edges_of}
use Rattle.brl_parts.proofs.Merging.{merged_edges}
use Rattle.brl_closure.proofs.Fresh.{kept_more}
use Rattle.brl_closure.proofs.Listing.{numbers_are, numbers_below}
use Rattle.brl_closure.proofs.check.edges.edges_of.Goals as goal

pub returns-in_default-clause-kept : goal.returns-in_default-clause-kept
returns-in_default-clause-kept g c =
    let states = c.args.body.now.states in
    kept_more (g.M.Parted.steps_of c.args.machine.now) states states (λ k s at. at) c.args.kept.now.cells c.list_edges.new.cells c.list_edges.ensures.cells c.args.kept.now.parts c.requires.kept

pub returns-in_default-2-clause-kept : goal.returns-in_default-2-clause-kept
returns-in_default-2-clause-kept g c =
    let states = c.args.body.now.states in
    let kept = c.numbers_of_parts.new.kept in
    kept_more (g.M.Parted.steps_of c.args.machine.now) states states (λ k s at. at) kept.cells c.list_edges-in_default-2.new.cells c.list_edges-in_default-2.ensures.cells kept.parts c.in_ok-numbers.ensures.kept

pub by_rule-requires : goal.by_rule-requires
by_rule-requires g c =
    let parts = c.numbers_of_parts.new.kept.parts.parts in
    subst (λ (l : List ℕ). All (λ n. n < length parts) l) (sym c.as_slice.ensures.value)
    (numbers_below parts c.in-Some.listed.items c.in-Some-2.numbers.items (rw c.in-Some-2.is at c.in_ok-numbers.ensures.numbers))

pub returns-clause-edges : goal.returns-clause-edges
returns-clause-edges g c =
    let m = g.M.Machine.behaviour c.args.machine.now in
    let steps_of = g.M.Parted.steps_of c.args.machine.now in
    let states = c.args.body.now.states in
    let cells = c.numbers_of_parts.new.kept.cells in
    let kept = c.numbers_of_parts.new.kept.parts in
    let listed = c.in-Some.listed.items in
    let numbers = c.in-Some-2.numbers.items in
    let s = c.index-states-number.result in
    let at : slice_get states c.args.number ≡ Some s = read_at c.states.result.now states c.args.number s c.states.ensures.states (omega (arith, ap length c.states.ensures.states)) c.index-states-number.is in
    record {
      state = s;
      at = at;
      listed = merged_edges steps_of states cells kept (m.steps s) listed numbers c.in_ok-edges-3.edges.items (c.requires.laws.in_order s) (rw c.in-Some.is at c.in_ok-listed.ensures)
          (numbers_are steps_of states cells kept listed numbers (rw c.in-Some-2.is at c.in_ok-numbers.ensures.numbers) c.in_ok-numbers.ensures.kept c.law.ensures)
          (subst (λ (l : List ℕ). AreByRule (flat_map (edges_of kept) l) c.in_ok-edges-3.edges.items) c.as_slice.ensures.value c.in_ok-edges-3.ensures);
    }

pub returns-in_default-2-clause-cells : goal.returns-in_default-2-clause-cells
returns-in_default-2-clause-cells g c = λ k own at. c.list_edges-in_default-2.ensures.cells k own (c.in_ok-numbers.ensures.cells k own at)
