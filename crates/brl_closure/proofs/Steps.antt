-- A step of a search keeps what is done.
use Rattle.std.proofs.Common.{◌≡◌, ℕ, ◌+◌, ◌-◌, ◌*◌, ◌<◌, ◌≤◌, All, List, [], ◌∷◌, ◌++◌, ◌⊎◌, inl, inr, length, Some, slice_get, refl, sym, ◌∙◌, ap, ap₂, subst, arith}
use Rattle.std.specs.Global.{Vec}
use Rattle.std.specs.BinaryHeap.{heap_items, heap_len}
use Rattle.std.specs.List.Sorted.{IsPermutation}
use Rattle.std.specs.declared.cmp.Reverse.{Reverse}
use Rattle.std.proofs.lemmas.Bool.{cases_eq}
use Rattle.brl_pairs.specs.Runs.{Behaviour}
use Rattle.brl_pairs.specs.Sorted.{AreSortedEdges}
use Rattle.brl_pairs.specs.declared.step.Step.{Step}
use Rattle.brl_parts.specs.Parts.{AreKeptParts, no_parts}
use Rattle.brl_closure.specs.Edges.{AreKeptOrNone, AreSomeOf, IsExpanded, IsWalked}
use Rattle.brl_closure.specs.Trail.{Advances}
use Rattle.brl_closure.specs.Worklist.{IsFinished, IsItemOf, IsWorking, NoneIsReady, IsQueued, steps_left}
use Rattle.brl_pairs.specs.declared.sorted.SortedEdge.{SortedEdge}
use Rattle.brl_closure.specs.SearchView.{Stays}
use Rattle.brl_closure.specs.declared.search.finder.Finder.{Finder}
use Rattle.brl_closure.specs.declared.search.trail.Trail.{Trail}
use Rattle.brl_closure.specs.declared.search.worklist.Worklist.{Worklist}
use Rattle.brl_closure.proofs.Edges.{expanded_more, kept_or_none_more, some_kept, walked_more}
use Rattle.brl_closure.proofs.Queue.{all_head, none_queued, queued_popped}
use Rattle.brl_pairs.proofs.Lists.{length_push, push_cases}

below_or_not : (n k : ℕ) → (n < k) ⊎ (k ≤ n)
below_or_not n k = grind arith

-- ---- Fewer steps are left

-- an expanded state, and new pairs that are queued
pub fewer_expanded : (limit done done' known known' queued queued' : ℕ) → done' ≡ done + 1 → done < limit → known ≤ known' → known' ≤ limit → queued' + known ≡ queued + known'
    → (limit - done') + 2 * (limit - known') + queued' < (limit - done) + 2 * (limit - known) + queued
fewer_expanded limit done done' known known' queued queued' more some grown few count = omega arith

-- a walked pair, and new pairs that are queued
pub fewer_walked : (limit done done' known known' queued popped queued' : ℕ) → done' ≡ done → popped + 1 ≡ queued → known ≤ known' → known' ≤ limit → queued' + known ≡ popped + known'
    → (limit - done') + 2 * (limit - known') + queued' < (limit - done) + 2 * (limit - known) + queued
fewer_walked limit done done' known known' queued popped queued' same one grown few count = omega (arith, same)

-- ---- What is done stays done

module _ {M S P : Type 0} (behaviour : M → Behaviour S) (steps_of : M → P → List (Step S)) (f : Finder M S) (t u : Trail S) (w v : Worklist P) (working : IsWorking behaviour steps_of f t w) (advances : Advances behaviour f t u)
    (new : (n : ℕ) → length t.pairs ≤ n → n < length u.pairs → IsQueued n (heap_items v.queue)) (items : All (IsItemOf u.pairs) (heap_items v.queue)) where
  walked_stays : (n : ℕ) → IsWalked (behaviour f.machine.now) t.states t.pairs n → IsWalked (behaviour f.machine.now) u.states u.pairs n
  walked_stays = walked_more (behaviour f.machine.now) t.states u.states t.pairs u.pairs advances.1.states advances.1.pairs

  expanded_stays : (k : ℕ) → IsExpanded (behaviour f.machine.now) t.states t.pairs k → IsExpanded (behaviour f.machine.now) u.states u.pairs k
  expanded_stays = expanded_more (behaviour f.machine.now) t.states u.states t.pairs u.pairs advances.1.states advances.1.pairs

  edges_stay : Stays w.cells v.cells → AreKeptOrNone (behaviour f.machine.now) u.states v.cells w.expanded.items
  edges_stay cells = kept_or_none_more (behaviour f.machine.now) t.states u.states w.cells v.cells advances.1.states cells w.expanded.items working.edges

  pub working_expanded : (edges : Vec SortedEdge) (left : List (Vec SortedEdge)) → length left ≡ length w.expanded.items → AreSomeOf w.expanded.items left → length w.expanded.items < length t.states → Stays w.cells v.cells
      → AreSortedEdges (behaviour f.machine.now) u.states (length w.expanded.items) v.cells edges.items → IsExpanded (behaviour f.machine.now) u.states u.pairs (length w.expanded.items)
      → v.expanded.items ≡ left ++ edges ∷ [] → ((n : ℕ) → IsQueued n (heap_items w.queue) → IsQueued n (heap_items v.queue)) → AreKeptParts (steps_of f.machine.now) u.states v.cells v.parts → IsWorking behaviour steps_of f u v
  working_expanded edges left many some_left some cells are here more old parts = record {
    active = advances.0;
    there = omega (arith, some, count, advances.1.more_states);
    edges = λ k es at. elim (push_cases left edges k es (subst (λ (xs : List (Vec SortedEdge)). slice_get xs k ≡ Some es) more at)) [
      | inl before ↦ some_kept (behaviour f.machine.now) u.states v.cells w.expanded.items left (edges_stay cells) some_left k es before
      | inr last ↦ inr (subst (λ (es : Vec SortedEdge). AreSortedEdges (behaviour f.machine.now) u.states k v.cells es.items) last.1 (subst (λ (j : ℕ). AreSortedEdges (behaviour f.machine.now) u.states j v.cells edges.items) (sym (last.0 ∙ many)) are))
    ];
    parts = parts;
    states = λ k below. elim (cases_eq k (length w.expanded.items)) [
      | inl same ↦ subst (IsExpanded (behaviour f.machine.now) u.states u.pairs) (sym same) here
      | inr other ↦ expanded_stays k (working.states k (omega (arith, below, count)))
    ];
    pairs = λ n below. elim (below_or_not n (length t.pairs)) [
      | inl before ↦ elim (working.pairs n before) [ inl waits ↦ inl (old n waits) | inr walked ↦ inr (walked_stays n walked) ]
      | inr after ↦ inl (new n after below)
    ];
    items = items;
  }
    where
      count : length v.expanded.items ≡ length w.expanded.items + 1
      count = ap length more ∙ length_push left edges ∙ ap (λ (n : ℕ). n + 1) many

  pub working_walked : (number : ℕ) (first : Reverse (ℕ × ℕ)) (rest : List (Reverse (ℕ × ℕ))) → first.0.1 ≡ number → IsPermutation (heap_items w.queue) (first ∷ rest) → IsWalked (behaviour f.machine.now) u.states u.pairs number → length v.expanded.items ≡ length w.expanded.items
      → AreKeptOrNone (behaviour f.machine.now) u.states v.cells v.expanded.items → ((n : ℕ) → IsQueued n rest → IsQueued n (heap_items v.queue)) → AreKeptParts (steps_of f.machine.now) u.states v.cells v.parts → IsWorking behaviour steps_of f u v
  working_walked number first rest is same here count edges old parts = record {
    active = advances.0;
    there = omega (arith, working.there, count, advances.1.more_states);
    edges = edges;
    parts = parts;
    states = λ k below. expanded_stays k (working.states k (omega (arith, below, count)));
    pairs = λ n below. elim (below_or_not n (length t.pairs)) [
      | inl before ↦ elim (cases_eq n number) [
        | inl walked ↦ inr (subst (IsWalked (behaviour f.machine.now) u.states u.pairs) (sym walked) here)
        | inr other ↦ elim (working.pairs n before) [
          | inl waits ↦ inl (old n (queued_popped first (heap_items w.queue) rest same n (λ e. other (e ∙ is)) waits))
          | inr walked ↦ inr (walked_stays n walked)
        ]
      ]
      | inr after ↦ inl (new n after below)
    ];
    items = items;
  }

-- where all states are expanded and no pair is ready, no pair is queued
pub all_finished : {M S P : Type 0} (behaviour : M → Behaviour S) (steps_of : M → P → List (Step S)) (f : Finder M S) (t : Trail S) (w : Worklist P) → IsWorking behaviour steps_of f t w → NoneIsReady w → length t.states ≤ length w.expanded.items → IsFinished behaviour f t
all_finished behaviour steps_of f t w working none all = record {
  active = working.active;
  states = λ k below. working.states k (omega (arith, below, all));
  pairs = λ n below. elim (working.pairs n below) [ inl waits ↦ absurd (none_queued n (heap_items w.queue) (none_left (heap_items w.queue) refl) waits) | inr walked ↦ walked ];
}
  where
    none_left : (items : List (Reverse (ℕ × ℕ))) → heap_items w.queue ≡ items → length items ≡ 0
    none_left [] is = refl
    none_left (first ∷ rest) is =
        let item : IsItemOf t.pairs first = all_head (IsItemOf t.pairs) first rest (subst (All (IsItemOf t.pairs)) is working.items) in
        let late : length w.expanded.items ≤ first.0.0 = none first (ap (λ (xs : List (Reverse (ℕ × ℕ))). slice_get xs 0) is) in
        let range = working.active.traced.in_range first.0.1 item.0 item.1 in
        absurd (omega (arith, late, all, range.behind, item.2))

-- ---- Parts that are forgotten

-- as many steps are left
pub same_left : {S P : Type 0} (limit : ℕ) (t : Trail S) (w v : Worklist P) → v.expanded ≡ w.expanded → v.queue ≡ w.queue → steps_left limit t v ≡ steps_left limit t w
same_left limit t w v expanded queue = ap₂ (λ (e : Vec (Vec SortedEdge)) q. (limit - length e.items) + 2 * (limit - length t.pairs) + heap_len q) expanded queue

pub working_without : {M S P : Type 0} (behaviour : M → Behaviour S) (steps_of : M → P → List (Step S)) (f : Finder M S) (t : Trail S) (w v : Worklist P) → IsWorking behaviour steps_of f t w
    → (v.parts ≡ w.parts) ⊎ (v.parts ≡ no_parts) → v.cells ≡ w.cells → v.expanded ≡ w.expanded → v.queue ≡ w.queue → IsWorking behaviour steps_of f t v
working_without behaviour steps_of f t w v working parts cells expanded queue = record {
  active = working.active;
  there = subst (λ (e : Vec (Vec SortedEdge)). length e.items ≤ length t.states) (sym expanded) working.there;
  edges = subst (λ (own : List (List ℕ)). AreKeptOrNone (behaviour f.machine.now) t.states own v.expanded.items) (sym cells)
      (subst (λ (e : Vec (Vec SortedEdge)). AreKeptOrNone (behaviour f.machine.now) t.states w.cells e.items) (sym expanded) working.edges);
  parts = subst (λ (own : List (List ℕ)). AreKeptParts (steps_of f.machine.now) t.states own v.parts) (sym cells) (elim parts [
    | inl same ↦ subst (AreKeptParts (steps_of f.machine.now) t.states w.cells) (sym same) working.parts
    | inr none ↦ subst (AreKeptParts (steps_of f.machine.now) t.states w.cells) (sym none) (λ number part edges is. (let there = is.part_at in cc))
  ]);
  states = λ k below. working.states k (subst (λ (e : Vec (Vec SortedEdge)). k < length e.items) expanded below);
  pairs = λ n below. elim (working.pairs n below) [ inl waits ↦ inl (subst (λ q. IsQueued n (heap_items q)) (sym queue) waits) | inr walked ↦ inr walked ];
  items = subst (λ q. All (IsItemOf t.pairs) (heap_items q)) (sym queue) working.items;
}
