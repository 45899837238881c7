-- The splits of two edges that a state shares with an expanded one.
use Rattle.std.proofs.Common.{◌≡◌, ◌≢◌, ℕ, ◌<◌, Bool, true, false, List, [], ◌∷◌, ◌++◌, get_or, inl, inr, length, Option, None, Some, slice_get, refl, sym, ◌∙◌, ap, subst, arith, append-nil}
use Rattle.std.proofs.lemmas.Option.{slice_get-get_or, slice_get_within}
use Rattle.brl_pairs.specs.Body.{NumberPair}
use Rattle.brl_pairs.specs.Edges.{AreEdges}
use Rattle.brl_pairs.specs.Members.{HaveOneNumber}
use Rattle.brl_pairs.specs.NumberPairs.{IsFollowed, IsThere}
use Rattle.brl_pairs.specs.Runs.{Behaviour}
use Rattle.brl_pairs.specs.Shared.{AreShared, AreUnsharedSplits, IsOneUnshared, IsUnsharedSplit}
use Rattle.brl_pairs.specs.Sorted.{AreSortedEdges, DoMatch, IsSortedOf, cells_of, or_none}
use Rattle.brl_pairs.specs.declared.edge.Edge.{Edge}
use Rattle.brl_pairs.specs.declared.shared.TwoPlaces.{TwoPlaces}
use Rattle.brl_pairs.specs.declared.sorted.SortedEdge.{SortedEdge}
use Rattle.brl_pairs.proofs.Lists.{inside, same_place, three_ways}
use Rattle.brl_pairs.proofs.Numbered.{contained, place_of}
use Rattle.brl_pairs.proofs.Unmatched.{match_or_not, unmatched_followed}
use Rattle.std.specs.Global.{Vec}
use Rattle.brl_closure.proofs.There.{followed_more}
use Rattle.brl_closure.specs.SearchView.{Stays}
use Rattle.brl_closure.specs.Edges.{AreFollowedIfShared, AreKeptOrNone, AreOfExpanded, IsExpanded, edges_or_none, items_or_none}

-- ---- The pair of two states without a lead, in either order

there_back : (pairs : List NumberPair) (a b : ℕ) → IsThere pairs a b [] → IsThere pairs b a []
there_back pairs a b (inl h) = inr (refl, h)
there_back pairs a b (inr h) = inl h.1

-- the split of two edges in the other order
pub followed_back : (pairs : List NumberPair) (e f : Edge) → IsFollowed pairs e.next e.cells f → IsFollowed pairs f.next f.cells e
followed_back pairs e f h = record {
  still = λ rest longer. by_rest rest longer;
  swapped = λ rest some shorter. h.still rest shorter;
}
  where
    by_rest : (rest : List ℕ) → f.cells ≡ e.cells ++ rest → IsThere pairs f.next e.next rest
    by_rest [] same = there_back pairs e.next f.next (h.still [] (sym (same ∙ append-nil e.cells) ∙ sym (append-nil f.cells)))
    by_rest (c ∷ rest) longer = h.swapped (c ∷ rest) (λ none. cc) longer

-- edges with the same cells and next states
followed_alike : (pairs : List NumberPair) (e f g h : Edge) → e.next ≡ g.next → e.cells ≡ g.cells → f.next ≡ h.next → f.cells ≡ h.cells → IsFollowed pairs e.next e.cells f → IsFollowed pairs g.next g.cells h
followed_alike pairs e f g h next cells other_next other_cells is = record {
  still = λ rest longer.
      subst (λ (n : ℕ). IsThere pairs n h.next rest) next (subst (λ (n : ℕ). IsThere pairs e.next n rest) other_next (is.still rest (cells ∙ longer ∙ ap (λ (own : List ℕ). own ++ rest) (sym other_cells))));
  swapped = λ rest some shorter.
      subst (λ (n : ℕ). IsThere pairs n g.next rest) other_next (subst (λ (n : ℕ). IsThere pairs f.next n rest) next (is.swapped rest some (other_cells ∙ shorter ∙ ap (λ (own : List ℕ). own ++ rest) (sym cells))));
}

-- ---- Two lists of edges of one state

-- the edge at a place of another list of edges of the same state
record IsSameAt (edges : List Edge) (place : ℕ) (e : Edge) : Type 0 where
  edge : Edge
  at : slice_get edges place ≡ Some edge
  next : edge.next ≡ e.next
  cells : edge.cells ≡ e.cells

module _ {S : Type 0} (m : Behaviour S) (states : List S) (one : HaveOneNumber states) (number : ℕ) (edges others : List Edge) (are : AreEdges m states number edges) (others_are : AreEdges m states number others) where
  same_at : (place : ℕ) (e : Edge) → slice_get others place ≡ Some e → IsSameAt edges place e
  same_at place e at =
      let same : others_are.state ≡ are.state = same_place states number others_are.state are.state others_are.at are.at in
      let within = slice_get_within others place e at in
      let x = inside (m.steps others_are.state) place (omega (arith, within, others_are.listed.count)) in
      let x_at : slice_get (m.steps are.state) place ≡ Some x.0 = subst (λ (s : S). slice_get (m.steps s) place ≡ Some x.0) same x.1 in
      let here = slice_get_within (m.steps are.state) place x.0 x_at in
      let f = inside edges place (omega (arith, here, are.listed.count)) in
      let mine = are.listed.each place x.0 f.0 x_at f.1 in
      let theirs = others_are.listed.each place x.0 e x.1 at in
      record { edge = f.0; at = f.1; next = one f.0.next e.next x.0.next mine.next theirs.next; cells = mine.cells ∙ sym theirs.cells }

-- ---- Shared edges

-- the edge at the place of a sorted one has its cells and its next state
record IsOfSorted (cells : List (List ℕ)) (x : SortedEdge) (e : Edge) : Type 0 where
  next : x.next ≡ e.next
  own_cells : slice_get cells x.cells ≡ Some e.cells

of_sorted : (cells : List (List ℕ)) (edges : List Edge) (sorted : List SortedEdge) → IsSortedOf cells edges sorted → (k : ℕ) (x : SortedEdge) → slice_get sorted k ≡ Some x → (e : Edge) → slice_get edges x.place ≡ Some e → IsOfSorted cells x e
of_sorted cells edges sorted h k x at e e_at =
    let own = h.by_numbers.only x (contained sorted k x at) in
    let same : own.edge ≡ e = same_place edges x.place own.edge e own.at e_at in
    record { next = own.same_next ∙ ap (λ (z : Edge). z.next) same; own_cells = own.same_cells ∙ ap (λ (z : Edge). Some z.cells) same }

module _ {S : Type 0} (m : Behaviour S) (states : List S) (one : HaveOneNumber states) (pairs : List NumberPair) (cells : List (List ℕ)) (edges : List Edge) (sorted others : List SortedEdge) (h : IsSortedOf cells edges sorted)
    (shared : List Bool) (are : AreShared sorted others shared) where
  -- the edge of an expanded state that a shared one has for its own
  record HasOwn (number k : ℕ) (all : List Edge) (e : Edge) : Type 0 where
    other : SortedEdge
    other_at : slice_get others (are.own k) ≡ Some other
    edge : Edge
    at : slice_get all other.place ≡ Some edge
    next : edge.next ≡ e.next
    cells_are : edge.cells ≡ e.cells

  module _ (number : ℕ) (they : AreSortedEdges m states number cells others) (expanded : IsExpanded m states pairs number) where
    own_of : (k : ℕ) (x : SortedEdge) (e : Edge) → slice_get shared k ≡ Some true → slice_get sorted k ≡ Some x → slice_get edges x.place ≡ Some e → HasOwn number k expanded.edges e
    own_of k x e marked x_at e_at =
        let like = are.like k x marked x_at in
        let mine = of_sorted cells edges sorted h k x x_at e e_at in
        let theirs = they.sorted_of.by_numbers.only like.other (contained others (are.own k) like.other like.at) in
        let there = same_at m states one number expanded.edges they.edges expanded.are_edges they.are_edges like.other.place theirs.edge theirs.at in
        let own_cells : Some theirs.edge.cells ≡ Some e.cells = sym theirs.same_cells ∙ ap (slice_get cells) like.same_cells ∙ mine.own_cells in
        record {
          other = like.other;
          other_at = like.at;
          edge = there.edge;
          at = there.at;
          next = there.next ∙ sym theirs.same_next ∙ like.same_next ∙ mine.next;
          cells_are = there.cells ∙ (let same : theirs.edge.cells ≡ e.cells = cc in same);
        }

    own_apart : (k l : ℕ) → k ≢ l → slice_get shared k ≡ Some true → slice_get shared l ≡ Some true → are.own k ≢ are.own l
    own_apart k l differ k_marked l_marked same = elim (three_ways k l) [
      | inl less ↦ (let before = are.apart k l less k_marked l_marked in omega (arith, before, same))
      | inr more ↦ elim more [
        | inl here ↦ differ here
        | inr after ↦ (let before = are.apart l k after l_marked k_marked in omega (arith, before, same))
      ]
    ]

    positions_differ : (k l : ℕ) (x y : SortedEdge) → slice_get sorted k ≡ Some x → slice_get sorted l ≡ Some y → x.place < y.place → k ≢ l
    positions_differ k l x y x_at y_at less same =
        let one_edge : x ≡ y = same_place sorted k x y x_at (ap (slice_get sorted) same ∙ y_at) in
        let places = ap (λ (z : SortedEdge). z.place) one_edge in
        omega (arith, less, places)

    pub followed_there : AreFollowedIfShared pairs edges sorted shared
    followed_there k l x y e f k_marked l_marked x_at y_at less e_at f_at =
        let a = own_of k x e k_marked x_at e_at in
        let b = own_of l y f l_marked y_at f_at in
        elim (three_ways a.other.place b.other.place) [
          | inl before ↦ followed_alike pairs a.edge b.edge e f a.next a.cells_are b.next b.cells_are (expanded.splits a.other.place b.other.place a.edge b.edge before a.at b.at)
          | inr more ↦ elim more [
            | inl same ↦ absurd (own_apart k l (positions_differ k l x y x_at y_at less) k_marked l_marked (they.sorted_of.once (are.own k) (are.own l) a.other b.other a.other_at b.other_at same))
            | inr after ↦ followed_alike pairs a.edge b.edge e f a.next a.cells_are b.next b.cells_are
                (followed_back pairs b.edge a.edge (expanded.splits b.other.place a.other.place b.edge a.edge after b.at a.at))
          ]
        ]

  pub shared_followed : AreOfExpanded m states pairs cells others → AreFollowedIfShared pairs edges sorted shared
  shared_followed (inl none) = λ k l x y e f k_marked l_marked x_at y_at less e_at f_at.
      let like = are.like k x k_marked x_at in
      absurd (let gone : slice_get [] (are.own k) ≡ Some like.other = subst (λ (o : List SortedEdge). slice_get o (are.own k) ≡ Some like.other) none like.at in cc)
  shared_followed (inr there) = followed_there there.0 there.1 there.2

-- the kept edges of a state are those of an expanded one, or none
pub of_expanded : {S : Type 0} (m : Behaviour S) (states : List S) (pairs : List NumberPair) (cells : List (List ℕ)) (lists : List (Vec SortedEdge)) → AreKeptOrNone m states cells lists
    → ((k : ℕ) → k < length lists → IsExpanded m states pairs k) → (number : Option ℕ) → AreOfExpanded m states pairs cells (edges_or_none lists number)
of_expanded m states pairs cells lists kept done None = inl refl
of_expanded m states pairs cells lists kept done (Some number) = by (slice_get lists number) refl
  where
    by : (found : Option (Vec SortedEdge)) → slice_get lists number ≡ found → AreOfExpanded m states pairs cells (items_or_none found)
    by None at = inl refl
    by (Some own) at = elim (kept number own at) [
      | inl none ↦ inl none
      | inr are ↦ inr (number, are, done number (slice_get_within lists number own at))
    ]

-- ---- All splits

-- the split at these places is followed
abbrev pub IsFollowedSplit : List NumberPair → List Edge → TwoPlaces → Type 0
IsFollowedSplit pairs edges split = (e f : Edge) → slice_get edges split.first ≡ Some e → slice_get edges split.second ≡ Some f → IsFollowed pairs e.next e.cells f

module _ (pairs : List NumberPair) (cells : List (List ℕ)) (edges : List Edge) (sorted : List SortedEdge) (h : IsSortedOf cells edges sorted) (shared : List Bool) (many : length shared ≡ length sorted) (splits : List TwoPlaces)
    (are : AreUnsharedSplits cells sorted shared splits) (known : AreFollowedIfShared pairs edges sorted shared) (each : (n : ℕ) (split : TwoPlaces) → slice_get splits n ≡ Some split → IsFollowedSplit pairs edges split) where
  cells_are : (x : SortedEdge) (e : Edge) → IsOfSorted cells x e → cells_of cells x ≡ e.cells
  cells_are x e is = ap or_none is.own_cells

  module _ (k l : ℕ) (x y : SortedEdge) (x_at : slice_get sorted k ≡ Some x) (y_at : slice_get sorted l ≡ Some y) (less : x.place < y.place) (e f : Edge) (e_at : slice_get edges x.place ≡ Some e) (f_at : slice_get edges y.place ≡ Some f) where
    unshared_followed : IsOneUnshared shared k l → IsFollowed pairs e.next e.cells f
    unshared_followed one = elim (match_or_not e.cells f.cells) [
      | inr other ↦ unmatched_followed pairs e.next e.cells f other
      | inl m ↦
          let split : TwoPlaces = record { first = x.place; second = y.place } in
          let a = cells_are x e (of_sorted cells edges sorted h k x x_at e e_at) in
          let b = cells_are y f (of_sorted cells edges sorted h l y y_at f f_at) in
          let is : IsUnsharedSplit cells sorted shared split = record {
            k = k;
            l = l;
            first = x;
            second = y;
            first_at = x_at;
            second_at = y_at;
            first_place = refl;
            second_place = refl;
            in_order = less;
            match = subst (λ (own : List ℕ). DoMatch own (cells_of cells y)) (sym a) (subst (DoMatch e.cells) (sym b) m);
            unshared = one;
          } in
          let n = place_of splits split (are.all split is) in
          each n.0 split n.1 e f e_at f_at
    ]

    one_followed : IsFollowed pairs e.next e.cells f
    one_followed =
        let a = inside shared k (let within = slice_get_within sorted k x x_at in omega (arith, within, many)) in
        let b = inside shared l (let within = slice_get_within sorted l y y_at in omega (arith, within, many)) in
        by a.0 b.0 a.1 b.1
      where
        by : (s t : Bool) → slice_get shared k ≡ Some s → slice_get shared l ≡ Some t → IsFollowed pairs e.next e.cells f
        by true true s_at t_at = known k l x y e f s_at t_at x_at y_at less e_at f_at
        by false t s_at t_at = unshared_followed (inl s_at)
        by true false s_at t_at = unshared_followed (inr t_at)

  pub all_followed : (i j : ℕ) (e f : Edge) → i < j → slice_get edges i ≡ Some e → slice_get edges j ≡ Some f → IsFollowed pairs e.next e.cells f
  all_followed i j e f less e_at f_at =
      let x = h.by_numbers.all i e e_at in
      let y = h.by_numbers.all j f f_at in
      let k = place_of sorted x.0 x.1 in
      let l = place_of sorted y.0 y.1 in
      one_followed k.0 l.0 x.0 y.0 k.1 l.1 (omega (arith, less, x.2, y.2)) e f (ap (slice_get edges) x.2 ∙ e_at) (ap (slice_get edges) y.2 ∙ f_at)

-- ---- Where pairs are added

pub followed_split_more : (old new : List NumberPair) → Stays old new → (edges : List Edge) (split : TwoPlaces) → IsFollowedSplit old edges split → IsFollowedSplit new edges split
followed_split_more old new stays edges split h e f e_at f_at = followed_more old new stays e.next e.cells f (h e f e_at f_at)

pub known_more : (old new : List NumberPair) → Stays old new → (edges : List Edge) (sorted : List SortedEdge) (shared : List Bool) → AreFollowedIfShared old edges sorted shared → AreFollowedIfShared new edges sorted shared
known_more old new stays edges sorted shared h k l x y e f k_marked l_marked x_at y_at less e_at f_at = followed_more old new stays e.next e.cells f (h k l x y e f k_marked l_marked x_at y_at less e_at f_at)

-- both places of a split are within the edges, the first one before the second
split_within : (cells : List (List ℕ)) (edges : List Edge) (sorted : List SortedEdge) → IsSortedOf cells edges sorted → (shared : List Bool) (split : TwoPlaces) → IsUnsharedSplit cells sorted shared split → (split.first < split.second) × (split.second < length edges)
split_within cells edges sorted h shared split is =
    let own = h.by_numbers.only is.second (contained sorted is.l is.second is.second_at) in
    let within : is.second.place < length edges = slice_get_within edges is.second.place own.edge own.at in
    (is.in_order, omega (arith, within, is.second_place))

-- the places at hand
abbrev pub two_at : List TwoPlaces → ℕ → TwoPlaces
two_at items k = get_or items k (record { first = 0; second = 0 })

pub two_is_at : (items : List TwoPlaces) (k : ℕ) → k < length items → slice_get items k ≡ Some (two_at items k)
two_is_at items k within = slice_get-get_or items k (record { first = 0; second = 0 }) within

pub places_within : (cells : List (List ℕ)) (edges : List Edge) (sorted : List SortedEdge) → IsSortedOf cells edges sorted → (shared : List Bool) (items : List TwoPlaces) → AreUnsharedSplits cells sorted shared items
    → (k : ℕ) → k < length items → ((two_at items k).first < (two_at items k).second) × ((two_at items k).second < length edges)
places_within cells edges sorted h shared items are k within = split_within cells edges sorted h shared (two_at items k) (are.only (two_at items k) (contained items k (two_at items k) (two_is_at items k within)))
