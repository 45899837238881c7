use Rattle.std.proofs.Common.{◌∙◌, ℕ, List, subst, sym}
use Rattle.brl_parts.specs.Parts.{AreKeptParts, PartsView}
use Rattle.brl_closure.specs.Edges.{AreKeptOrNone}
use Rattle.brl_closure.specs.SearchView.{Stays}
use Rattle.brl_closure.proofs.Edges.{kept_or_none_more, some_kept, some_of_some}
use Rattle.brl_closure.proofs.search.finder.Finder.take_edges.Goals as goal

pub returns-then-not-is_empty-clause-work : goal.returns-then-not-is_empty-clause-work
returns-then-not-is_empty-clause-work g c =
    let m = g.M.Machine.behaviour c.args.self.now.machine.now in
    let steps_of = g.M.Parted.steps_of c.args.self.now.machine.now in
    let states = c.args.trail.now.states in
    let old = c.args.worklist.now in
    let new = c.take-kept.new.self in
    let cells = sym c.take-kept.ensures.cells in
    record {
      cells = subst (Stays old.cells) cells (λ k own at. at);
      count = c.take-kept.ensures.count;
      edges = subst (λ (own : List (List ℕ)). AreKeptOrNone m states own new.expanded.items) cells (some_kept m states old.cells old.expanded.items new.expanded.items c.requires.kept c.take-kept.ensures.some);
      parts = subst (λ (own : List (List ℕ)). AreKeptParts steps_of states own new.parts) cells
          (subst (λ (p : PartsView g.row.M-Part.Denot). AreKeptParts steps_of states old.cells p) (sym c.take-kept.ensures.parts) c.requires.parts);
      queue = c.take-kept.ensures.queue;
    }

pub list_again-requires-clause-parts : goal.list_again-requires-clause-parts
list_again-requires-clause-parts g c =
    let steps_of = g.M.Parted.steps_of c.args.self.now.machine.now in
    let states = c.args.trail.now.states in
    subst (λ (own : List (List ℕ)). AreKeptParts steps_of states own c.take-kept.new.self.parts) (sym c.take-kept.ensures.cells)
    (subst (λ (p : PartsView g.row.M-Part.Denot). AreKeptParts steps_of states c.args.worklist.now.cells p) (sym c.take-kept.ensures.parts) c.requires.parts)

pub returns-clause-work : goal.returns-clause-work
returns-clause-work g c =
    let m = g.M.Machine.behaviour c.args.self.now.machine.now in
    let steps_of = g.M.Parted.steps_of c.args.self.now.machine.now in
    let xs = c.args.trail.now.states in
    let ys = c.list_again.new.trail.states in
    let old = c.args.worklist.now in
    let taken = c.take-kept.new.self in
    let new = c.make_room.new.self in
    let cells = sym c.make_room.ensures.cells in
    let stays : Stays old.cells c.list_again.new.cells = subst (λ (own : List (List ℕ)). Stays own c.list_again.new.cells) c.take-kept.ensures.cells c.in_ok-edges.ensures.cells in
    record {
      cells = subst (Stays old.cells) cells stays;
      count = c.make_room.ensures.count ∙ c.take-kept.ensures.count;
      edges = subst (λ (own : List (List ℕ)). AreKeptOrNone m ys own new.expanded.items) cells
          (kept_or_none_more m xs ys old.cells c.list_again.new.cells c.in_ok-edges.ensures.advances.1.states stays new.expanded.items
          (some_kept m xs old.cells old.expanded.items new.expanded.items c.requires.kept
          (some_of_some old.expanded.items taken.expanded.items new.expanded.items c.take-kept.ensures.some c.make_room.ensures.some)));
      parts = subst (λ (own : List (List ℕ)). AreKeptParts steps_of ys own new.parts) cells
          (subst (λ (p : PartsView g.row.M-Part.Denot). AreKeptParts steps_of ys c.list_again.new.cells p) (sym c.make_room.ensures.parts) c.in_ok-edges.ensures.parts);
      queue = c.make_room.ensures.queue ∙ c.take-kept.ensures.queue;
    }
