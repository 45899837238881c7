use Rattle.std.proofs.Common.{◌≡◌, ◌+◌, ◌∙◌, ◌∷◌, ◌++◌, [], ℕ, All, List, length, sym, ap, subst, arith}
use Rattle.std.specs.BinaryHeap.{heap_items, heap_len}
use Rattle.std.specs.Global.{Vec}
use Rattle.brl_pairs.specs.Sorted.{AreSortedEdges}
use Rattle.brl_pairs.specs.declared.sorted.SortedEdge.{SortedEdge}
use Rattle.brl_parts.specs.Parts.{AreKeptParts, PartsView}
use Rattle.brl_closure.specs.SearchView.{Stays}
use Rattle.brl_closure.specs.Edges.{IsExpanded}
use Rattle.brl_closure.specs.Worklist.{IsItemOf, IsQueued}
use Rattle.brl_closure.proofs.Queue.{items_more}
use Rattle.brl_closure.proofs.Steps.{fewer_expanded, working_expanded}
use Rattle.brl_closure.proofs.search.finder.Finder.expand_next.Goals as goal
use Rattle.brl_pairs.proofs.Lists.{length_push}

pub returns-clause-step : goal.returns-clause-step
returns-clause-step g c =
    let m = g.M.Machine.behaviour c.args.self.now.machine.now in
    let trail = c.expand.new.trail in
    let advances = c.in_ok-edges.ensures.advances in
    let count : c.len-number.result ≡ length c.args.worklist.now.expanded.items = omega (arith, c.len-number.ensures, c.args.worklist.now.expanded.ok.0) in
    let old = c.args.worklist.now in
    let left = c.make_room.new.self in
    let new = c.enqueue_from.new.self in
    let many : length left.expanded.items ≡ length old.expanded.items = c.make_room.ensures.count in
    let cells : c.expand.new.cells ≡ new.cells = sym (c.enqueue_from.ensures.cells ∙ c.make_room.ensures.cells) in
    let whole : new.expanded.items ≡ left.expanded.items ++ c.in_ok-edges.edges ∷ [] = ap (λ (v : Vec (Vec SortedEdge)). v.items) c.enqueue_from.ensures.expanded ∙ c.in_ok-push.ensures.items in
    let more : length new.expanded.items ≡ length old.expanded.items + 1 = ap length whole ∙ length_push left.expanded.items c.in_ok-edges.edges ∙ ap (λ (n : ℕ). n + 1) many in
    let queue = ap (λ q. heap_len q) c.make_room.ensures.queue in
    record {
      working =
          working_expanded g.M.Machine.behaviour g.M.Parted.steps_of c.args.self.now c.args.trail.now trail old new c.requires.working advances
          (λ n low high. c.in_ok-enqueue_from.ensures.new n (omega (arith, low, c.len-known.ensures)) high)
          (c.in_ok-enqueue_from.ensures.items (subst (λ q. All (IsItemOf trail.pairs) (heap_items q)) (sym c.make_room.ensures.queue) (items_more c.args.trail.now.pairs trail.pairs advances.1.pairs (heap_items old.queue) c.requires.working.items)))
          c.in_ok-edges.edges left.expanded.items many c.make_room.ensures.some c.requires.some
          (subst (Stays old.cells) cells c.in_ok-edges.ensures.cells)
          (subst (λ (kept : List (List ℕ)). AreSortedEdges m trail.states (length old.expanded.items) kept c.in_ok-edges.edges.items) cells (subst (λ (n : ℕ). AreSortedEdges m trail.states n c.expand.new.cells c.in_ok-edges.edges.items) count c.in_ok-edges.ensures.edges))
          (subst (λ (n : ℕ). IsExpanded m trail.states trail.pairs n) count c.in_ok-edges.ensures.expanded)
          whole (λ n h. c.in_ok-enqueue_from.ensures.old n (subst (λ q. IsQueued n (heap_items q)) (sym c.make_room.ensures.queue) h))
          (subst (λ (own : List (List ℕ)). AreKeptParts (g.M.Parted.steps_of c.args.self.now.machine.now) trail.states own new.parts) cells
          (subst (λ (p : PartsView g.row.M-Part.Denot). AreKeptParts (g.M.Parted.steps_of c.args.self.now.machine.now) trail.states c.expand.new.cells p) (sym (c.enqueue_from.ensures.parts ∙ c.make_room.ensures.parts)) c.in_ok-edges.ensures.parts));
      extends = advances.1;
      fewer = fewer_expanded c.args.self.now.limit (length old.expanded.items) (length new.expanded.items) (length c.args.trail.now.pairs) (length trail.pairs)
          (heap_len old.queue) (heap_len new.queue) more (omega (arith, c.requires.some, c.requires.working.active.few_states)) advances.1.more_pairs advances.0.few_pairs
          (omega (arith, c.in_ok-enqueue_from.ensures.count, c.len-known.ensures, queue));
    }
