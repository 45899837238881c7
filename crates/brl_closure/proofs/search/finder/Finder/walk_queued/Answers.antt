use Rattle.std.proofs.Common.{◌∙◌, ℕ, List, ap, length, subst, sym}
use Rattle.std.proofs.Math.ListN.{length-set}
use Rattle.brl_parts.specs.Parts.{AreKeptParts, PartsView}
use Rattle.brl_closure.specs.Edges.{AreKeptOrNone}
use Rattle.brl_closure.specs.SearchView.{Stays}
use Rattle.brl_closure.proofs.Additions.{advances_trans}
use Rattle.brl_closure.proofs.Edges.{kept_or_none_more, one_put, sorted_edges_more}
use Rattle.brl_closure.proofs.Fresh.{kept_more}
use Rattle.brl_closure.proofs.search.finder.Finder.walk_queued.Goals as goal

pub returns-clause-work : goal.returns-clause-work
returns-clause-work g c =
    let m = g.M.Machine.behaviour c.args.self.now.machine.now in
    let steps_of = g.M.Parted.steps_of c.args.self.now.machine.now in
    let xs = c.take_edges.new.trail.states in
    let ys = c.find_moves.new.trail.states in
    let old = c.args.worklist.now in
    let work = c.take_edges.new.worklist in
    let new = c.put.new.self in
    let behind = c.in_ok-pair.pair.behind in
    let cells = sym c.put.ensures.cells in
    let states = c.in_ok-find_moves.ensures.advances.1.states in
    let has = c.in_ok-edges.ensures.work in
    record {
      cells = subst (Stays old.cells) cells has.cells;
      count = ap length c.put.ensures.expanded ∙ length-set work.expanded.items behind c.in_ok-edges.edges ∙ has.count;
      edges = subst (λ (own : List (List ℕ)). AreKeptOrNone m ys own new.expanded.items) cells
          (subst (AreKeptOrNone m ys work.cells) (sym c.put.ensures.expanded)
          (one_put m ys work.cells work.expanded.items behind c.in_ok-edges.edges (kept_or_none_more m xs ys work.cells work.cells states (λ k own at. at) work.expanded.items has.edges)
          (sorted_edges_more m xs ys work.cells work.cells states (λ k own at. at) behind c.in_ok-edges.edges.items c.in_ok-edges.ensures.edges)));
      parts = subst (λ (own : List (List ℕ)). AreKeptParts steps_of ys own new.parts) cells
          (subst (λ (p : PartsView g.row.M-Part.Denot). AreKeptParts steps_of ys work.cells p) (sym c.put.ensures.parts)
          (kept_more steps_of xs ys states work.cells work.cells (λ k own at. at) work.parts has.parts));
      queue = c.put.ensures.queue ∙ has.queue;
    }

pub returns-clause-advances : goal.returns-clause-advances
returns-clause-advances g c =
    advances_trans g.M.Machine.behaviour c.args.self.now c.args.trail.now c.take_edges.new.trail c.find_moves.new.trail c.in_ok-edges.ensures.advances c.in_ok-find_moves.ensures.advances
