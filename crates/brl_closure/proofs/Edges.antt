-- Edges, where states are added and where an edge is added.
use Rattle.std.proofs.Common.{◌≡◌, ◌≢◌, ℕ, ◌+◌, ◌<◌, ◌≤◌, List, [], ◌++◌, inl, inr, length, set, Some, slice_get, sym, ◌∙◌, ap, subst, arith}
use Rattle.std.proofs.lemmas.Option.{slice_get_within}
use Rattle.brl_pairs.specs.Body.{NumberPair}
use Rattle.brl_pairs.specs.declared.step.Step.{Step}
use Rattle.brl_pairs.specs.Runs.{Behaviour, KeepsLaws}
use Rattle.brl_pairs.specs.declared.edge.Edge.{Edge}
use Rattle.brl_closure.specs.declared.search.trail.PairOrigin.TheVariants.{Split, Still, Swapped}
use Rattle.brl_pairs.specs.Edges.{IsEdge, AreFirstEdges, AreEdges}
use Rattle.brl_pairs.specs.Sorted.{AreMatches, AreSortedEdges, IsSortedOf, cells_of, or_none}
use Rattle.brl_pairs.specs.declared.sorted.SortedEdge.{SortedEdge}
use Rattle.brl_pairs.proofs.Numbered.{contained, still_sorted}
use Rattle.brl_pairs.specs.NumberPairs.{IsFollowed}
use Rattle.brl_closure.specs.Edges.{AreKeptOrNone, AreSomeOf, FitsFollowing, Explains, IsExpanded, IsWalked}
use Rattle.std.specs.Global.{Vec}
use Rattle.brl_closure.specs.SearchView.{Stays}
use Rattle.brl_closure.specs.Trail.{IsSplitOf, TakesStep}
use Rattle.brl_closure.proofs.There.{followed_more}
use Rattle.brl_pairs.proofs.Lists.{same_place, inside, set_cases}

module _ {S : Type 0} where
  pub first_edges_more : (xs ys : List S) → Stays xs ys → (listed : List (Step S)) (n : ℕ) (edges : List Edge) → AreFirstEdges xs listed n edges → AreFirstEdges ys listed n edges
  first_edges_more xs ys stays listed n edges h = record {
    count = h.count;
    each = λ place x e x_at e_at. (let before = h.each place x e x_at e_at in record { rule = before.rule; cells = before.cells; next = stays e.next x.next before.next });
  }

  pub edges_more : (m : Behaviour S) (xs ys : List S) → Stays xs ys → (number : ℕ) (edges : List Edge) → AreEdges m xs number edges → AreEdges m ys number edges
  edges_more m xs ys stays number edges h = record {
    state = h.state;
    at = stays number h.state h.at;
    listed = first_edges_more xs ys stays (m.steps h.state) (length (m.steps h.state)) edges h.listed;
  }

-- ---- The step of an edge

module _ {S : Type 0} (m : Behaviour S) (laws : KeepsLaws m) (states : List S) where
  -- the step of an edge
  record HasStep (number place : ℕ) (e : Edge) : Type 0 where
    step : Step S
    taken : TakesStep m states number place step
    is_edge : IsEdge states step e

  step_of : (number : ℕ) (edges : List Edge) → AreEdges m states number edges → (place : ℕ) (e : Edge) → slice_get edges place ≡ Some e → HasStep number place e
  step_of number edges h place e at =
      let within : place < length edges = slice_get_within edges place e at in
      let x = inside (m.steps h.state) place (omega (arith, within, h.listed.count)) in
      record { step = x.0; taken = record { state = h.state; at = h.at; listed = x.1 }; is_edge = h.listed.each place x.0 e x.1 at }

  short_cells_of : (number place : ℕ) (e : Edge) → HasStep number place e → length e.cells ≤ 1024
  short_cells_of number place e h =
      let few = (laws.good_steps h.taken.state h.step (place, h.taken.listed)).few_cells in
      let same : length e.cells ≡ length h.step.cells = ap length h.is_edge.cells in
      omega arith

  pub fits_following : (number : ℕ) (edges : List Edge) → AreEdges m states number edges → (place : ℕ) (e : Edge) → slice_get edges place ≡ Some e
      → (ahead : ℕ) (lead : List ℕ) → ahead < length states → length lead ≤ 1024 → FitsFollowing (length states) ahead lead e.next e.cells
  fits_following number edges h place e at ahead lead there short =
      let x = step_of number edges h place e at in
      record {
        ahead_there = there;
        behind_there = slice_get_within states e.next x.step.next x.is_edge.next;
        short_lead = short;
        short_cells = short_cells_of number place e x;
      }

  pub fits_splitting : (number : ℕ) (edges : List Edge) → AreEdges m states number edges → (i j : ℕ) (x y : Edge) → slice_get edges i ≡ Some x → slice_get edges j ≡ Some y → FitsFollowing (length states) x.next x.cells y.next y.cells
  fits_splitting number edges h i j x y x_at y_at =
      let s = step_of number edges h i x x_at in
      fits_following number edges h j y y_at x.next x.cells (slice_get_within states x.next s.step.next s.is_edge.next) (short_cells_of number i x s)

  -- two edges at different places make a split
  split_by : (number : ℕ) (i j : ℕ) (x y : Edge) → i ≢ j → HasStep number i x → HasStep number j y → (p : NumberPair) → p.ahead ≡ x.next → p.behind ≡ y.next → x.cells ≡ y.cells ++ p.lead → IsSplitOf m states number i j p
  split_by number i j x y differ a b p ahead behind lead = record {
    ahead_step = a.step;
    behind_step = b.step;
    differ = differ;
    ahead_taken = a.taken;
    behind_taken = b.taken;
    ahead = ap (slice_get states) ahead ∙ a.is_edge.next;
    behind = ap (slice_get states) behind ∙ b.is_edge.next;
    lead = sym a.is_edge.cells ∙ lead ∙ ap (λ (cells : List ℕ). cells ++ p.lead) b.is_edge.cells;
  }

  pub explains_split : (pairs : List NumberPair) (number : ℕ) (edges : List Edge) → AreEdges m states number edges → (i j : ℕ) (x y : Edge) → i < j → slice_get edges i ≡ Some x → slice_get edges j ≡ Some y
      → Explains m states pairs x.next x.cells y.next y.cells (record { still = Split number i j; swapped = Split number j i })
  explains_split pairs number edges h i j x y less x_at y_at =
      let a = step_of number edges h i x x_at in
      let b = step_of number edges h j y y_at in
      record {
        still = λ p ahead behind lead. split_by number i j x y (λ same. absurd (omega arith)) a b p ahead behind lead;
        swapped = λ p ahead behind some lead. split_by number j i y x (λ same. absurd (omega arith)) b a p ahead behind lead;
      }

  pub explains_move : (pairs : List NumberPair) (n : ℕ) (q : NumberPair) → slice_get pairs n ≡ Some q → (edges : List Edge) → AreEdges m states q.behind edges → (place : ℕ) (e : Edge) → slice_get edges place ≡ Some e
      → Explains m states pairs q.ahead q.lead e.next e.cells (record { still = Still n place; swapped = Swapped n place })
  explains_move pairs n q q_at edges h place e at =
      let x = step_of q.behind edges h place e at in
      record {
        still = λ p ahead behind lead. (
          q,
          q_at,
          record {
            step = x.step;
            taken = x.taken;
            ahead = ahead;
            behind = ap (slice_get states) behind ∙ x.is_edge.next;
            lead = lead ∙ ap (λ (cells : List ℕ). cells ++ p.lead) x.is_edge.cells;
          },
        );
        swapped = λ p ahead behind some lead. (
          q,
          q_at,
          record {
            step = x.step;
            taken = x.taken;
            ahead = ap (slice_get states) ahead ∙ x.is_edge.next;
            behind = behind;
            some = some;
            lead = sym x.is_edge.cells ∙ lead;
          },
        );
      }

-- an edge that matches a lead is the edge at its place
pub record IsFound (cells : List (List ℕ)) (edges : List Edge) (x : SortedEdge) : Type 0 where
  pub edge : Edge
  pub at : slice_get edges x.place ≡ Some edge
  pub next : x.next ≡ edge.next
  pub cells_is : cells_of cells x ≡ edge.cells

pub found_edge : (cells : List (List ℕ)) (edges : List Edge) (sorted : List SortedEdge) → IsSortedOf cells edges sorted → (lead : List ℕ) (found : List SortedEdge) → AreMatches cells sorted lead found
    → (k : ℕ) (x : SortedEdge) → slice_get found k ≡ Some x → IsFound cells edges x
found_edge cells edges sorted h lead found those k x at =
    let own = h.by_numbers.only x (those.those.only x (contained found k x at)).0 in
    record { edge = own.edge; at = own.at; next = own.same_next; cells_is = ap or_none own.same_cells }

-- the split of the edges at these places is followed, whichever edges they are
pub split_followed : (pairs : List NumberPair) (edges : List Edge) (i j : ℕ) (e f : Edge) → slice_get edges i ≡ Some e → slice_get edges j ≡ Some f → (lead : List ℕ) → lead ≡ e.cells → IsFollowed pairs e.next lead f
    → (x y : Edge) → slice_get edges i ≡ Some x → slice_get edges j ≡ Some y → IsFollowed pairs x.next x.cells y
split_followed pairs edges i j e f e_at f_at lead is h x y x_at y_at =
    subst (λ (z : Edge). IsFollowed pairs z.next z.cells y) (same_place edges i e x e_at x_at)
    (subst (IsFollowed pairs e.next e.cells) (same_place edges j f y f_at y_at) (subst (λ (own : List ℕ). IsFollowed pairs e.next own f) is h))

-- ---- What is done stays done

pub expanded_more : {S : Type 0} (m : Behaviour S) (xs ys : List S) (ps qs : List NumberPair) → Stays xs ys → Stays ps qs → (number : ℕ) → IsExpanded m xs ps number → IsExpanded m ys qs number
expanded_more m xs ys ps qs states pairs number h = record {
  edges = h.edges;
  are_edges = edges_more m xs ys states number h.edges h.are_edges;
  splits = λ i j x y less x_at y_at. followed_more ps qs pairs x.next x.cells y (h.splits i j x y less x_at y_at);
}

pub walked_more : {S : Type 0} (m : Behaviour S) (xs ys : List S) (ps qs : List NumberPair) → Stays xs ys → Stays ps qs → (number : ℕ) → IsWalked m xs ps number → IsWalked m ys qs number
walked_more m xs ys ps qs states pairs number h = record {
  pair = h.pair;
  at = pairs number h.pair h.at;
  edges = h.edges;
  are_edges = edges_more m xs ys states h.pair.behind h.edges h.are_edges;
  moves = λ k e at. followed_more ps qs pairs h.pair.ahead h.pair.lead e (h.moves k e at);
}

-- the sorted edges of a state, where states are added and more cells are kept
pub sorted_edges_more : {S : Type 0} (m : Behaviour S) (xs ys : List S) (old new : List (List ℕ)) → Stays xs ys → Stays old new → (number : ℕ) (sorted : List SortedEdge) → AreSortedEdges m xs number old sorted → AreSortedEdges m ys number new sorted
sorted_edges_more m xs ys old new states cells number sorted h = record {
  edges = h.edges;
  are_edges = edges_more m xs ys states number h.edges h.are_edges;
  sorted_of = still_sorted old new cells h.edges sorted h.sorted_of;
}

-- ---- The edges of states, as far as they are kept

-- where states are added and more cells are kept
pub kept_or_none_more : {S : Type 0} (m : Behaviour S) (xs ys : List S) (old new : List (List ℕ)) → Stays xs ys → Stays old new → (kept : List (Vec SortedEdge)) → AreKeptOrNone m xs old kept → AreKeptOrNone m ys new kept
kept_or_none_more m xs ys old new states cells kept h number sorted at = elim (h number sorted at) [
  | inl none ↦ inl none
  | inr are ↦ inr (sorted_edges_more m xs ys old new states cells number sorted.items are)
]

-- where some are dropped
pub some_kept : {S : Type 0} (m : Behaviour S) (states : List S) (cells : List (List ℕ)) (kept left : List (Vec SortedEdge)) → AreKeptOrNone m states cells kept → AreSomeOf kept left → AreKeptOrNone m states cells left
some_kept m states cells kept left h some number sorted at = elim (some number sorted at) [ inl none ↦ inl none | inr there ↦ h number sorted there ]

-- where those of one state are put there
pub one_put : {S : Type 0} (m : Behaviour S) (states : List S) (cells : List (List ℕ)) (kept : List (Vec SortedEdge)) (number : ℕ) (sorted : Vec SortedEdge) → AreKeptOrNone m states cells kept → AreSortedEdges m states number cells sorted.items
    → AreKeptOrNone m states cells (set kept number sorted)
one_put m states cells kept number sorted h are k other at = elim (set_cases kept number sorted k other at) [
  | inl here ↦ inr (subst (λ (v : Vec SortedEdge). AreSortedEdges m states k cells v.items) here.1 (subst (λ (n : ℕ). AreSortedEdges m states n cells sorted.items) (sym here.0) are))
  | inr there ↦ h k other there.1
]

pub some_of_some : (one two three : List (Vec SortedEdge)) → AreSomeOf one two → AreSomeOf two three → AreSomeOf one three
some_of_some one two three first second k other at = elim (second k other at) [ inl none ↦ inl none | inr there ↦ first k other there ]
