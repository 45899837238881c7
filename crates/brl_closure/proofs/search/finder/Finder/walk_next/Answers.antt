use Rattle.std.proofs.Common.{◌≡◌, ◌∙◌, ◌≤◌, ℕ, All, List, length, Some, slice_get, sym, ap, subst, arith}
use Rattle.std.specs.BinaryHeap.{heap_items, heap_len}
use Rattle.std.specs.Global.{Vec}
use Rattle.brl_pairs.specs.declared.sorted.SortedEdge.{SortedEdge}
use Rattle.brl_parts.specs.Parts.{AreKeptParts, PartsView}
use Rattle.brl_closure.specs.Edges.{AreKeptOrNone}
use Rattle.brl_closure.specs.Worklist.{IsItemOf, IsQueued}
use Rattle.brl_closure.proofs.Queue.{item_popped, items_more}
use Rattle.brl_closure.proofs.Steps.{fewer_walked, working_walked}
use Rattle.brl_closure.proofs.search.finder.Finder.walk_next.Goals as goal

pub walk_queued-requires-clause-there : goal.walk_queued-requires-clause-there
walk_queued-requires-clause-there g c =
    subst (λ (v : Vec (Vec SortedEdge)). length v.items ≤ length c.args.trail.now.states) (sym c.pop_ready.ensures.expanded) c.requires.working.there

pub walk_queued-requires-clause-kept : goal.walk_queued-requires-clause-kept
walk_queued-requires-clause-kept g c =
    let m = g.M.Machine.behaviour c.args.self.now.machine.now in
    subst (λ (own : List (List ℕ)). AreKeptOrNone m c.args.trail.now.states own c.pop_ready.new.self.expanded.items) (sym c.pop_ready.ensures.cells)
    (subst (λ (v : Vec (Vec SortedEdge)). AreKeptOrNone m c.args.trail.now.states c.args.worklist.now.cells v.items) (sym c.pop_ready.ensures.expanded) c.requires.working.edges)

pub walk_queued-requires-clause-parts : goal.walk_queued-requires-clause-parts
walk_queued-requires-clause-parts g c =
    let steps_of = g.M.Parted.steps_of c.args.self.now.machine.now in
    subst (λ (own : List (List ℕ)). AreKeptParts steps_of c.args.trail.now.states own c.pop_ready.new.self.parts) (sym c.pop_ready.ensures.cells)
    (subst (λ (p : PartsView g.row.M-Part.Denot). AreKeptParts steps_of c.args.trail.now.states c.args.worklist.now.cells p) (sym c.pop_ready.ensures.parts) c.requires.working.parts)

pub walk_queued-requires-clause-pair : goal.walk_queued-requires-clause-pair
walk_queued-requires-clause-pair g c =
    let first = c.in-Some.ensures.first in
    let item = (item_popped c.args.trail.now.pairs first.0 (heap_items c.args.worklist.now.queue) (heap_items c.pop_ready.new.self.queue) first.3 c.requires.working.items).0 in
    let same : length c.pop_ready.new.self.expanded.items ≡ length c.args.worklist.now.expanded.items = ap (λ (v : Vec (Vec SortedEdge)). length v.items) c.pop_ready.ensures.expanded in
    (item.0, subst (λ (n : ℕ). slice_get c.args.trail.now.pairs n ≡ Some item.0) first.1 item.1, omega (arith, item.2, first.2, same))

pub returns-clause-step : goal.returns-clause-step
returns-clause-step g c =
    let m = g.M.Machine.behaviour c.args.self.now.machine.now in
    let steps_of = g.M.Parted.steps_of c.args.self.now.machine.now in
    let first = c.in-Some.ensures.first in
    let advances = c.in_ok-walk_queued.ensures.advances in
    let old = c.args.worklist.now in
    let popped = c.pop_ready.new.self in
    let walked = c.walk_queued.new.worklist in
    let new = c.enqueue_from.new.self in
    let states = c.walk_queued.new.trail.states in
    let pairs = c.walk_queued.new.trail.pairs in
    let has = c.in_ok-walk_queued.ensures.work in
    let cells = sym c.enqueue_from.ensures.cells in
    let left = item_popped c.args.trail.now.pairs first.0 (heap_items old.queue) (heap_items popped.queue) first.3 c.requires.working.items in
    let count : length new.expanded.items ≡ length old.expanded.items =
    ap (λ (v : Vec (Vec SortedEdge)). length v.items) c.enqueue_from.ensures.expanded ∙ has.count ∙ ap (λ (v : Vec (Vec SortedEdge)). length v.items) c.pop_ready.ensures.expanded in
    record {
      working =
          working_walked g.M.Machine.behaviour g.M.Parted.steps_of c.args.self.now c.args.trail.now c.walk_queued.new.trail old new c.requires.working advances
          (λ n low high. c.in_ok-enqueue_from.ensures.new n (omega (arith, low, c.len-known.ensures)) high)
          (c.in_ok-enqueue_from.ensures.items (subst (λ q. All (IsItemOf pairs) (heap_items q)) (sym has.queue) (items_more c.args.trail.now.pairs pairs advances.1.pairs (heap_items popped.queue) left.1)))
          c.in-Some.number first.0 (heap_items popped.queue) first.1 first.3 c.in_ok-walk_queued.ensures.walked count
          (subst (λ (own : List (List ℕ)). AreKeptOrNone m states own new.expanded.items) cells
          (subst (λ (v : Vec (Vec SortedEdge)). AreKeptOrNone m states walked.cells v.items) (sym c.enqueue_from.ensures.expanded) has.edges))
          (λ n h. c.in_ok-enqueue_from.ensures.old n (subst (λ q. IsQueued n (heap_items q)) (sym has.queue) h))
          (subst (λ (own : List (List ℕ)). AreKeptParts steps_of states own new.parts) cells
          (subst (λ (p : PartsView g.row.M-Part.Denot). AreKeptParts steps_of states walked.cells p) (sym c.enqueue_from.ensures.parts) has.parts));
      extends = advances.1;
      fewer = fewer_walked c.args.self.now.limit (length old.expanded.items) (length new.expanded.items) (length c.args.trail.now.pairs) (length pairs)
          (heap_len old.queue) (heap_len popped.queue) (heap_len new.queue)
          count c.in-Some.ensures.count advances.1.more_pairs advances.0.few_pairs
          (let same = ap (λ q. heap_len q) has.queue in omega (arith, c.in_ok-enqueue_from.ensures.count, c.len-known.ensures, same));
    }
