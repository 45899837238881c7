-- The edges of a state by places and by the numbers of their cells.
use Rattle.std.proofs.Common.{◌≡◌, ◌⊎◌, ℕ, ◌+◌, ◌<◌, List, [], ◌∷◌, ◌++◌, inl, inr, length, get_or, refl, set, Some, slice_get, swap, sym, ◌∙◌, ap, subst, arith, Contains, IsPermutation}
use Rattle.std.proofs.lemmas.List.Edits.{swap_is}
use Rattle.std.proofs.lemmas.Option.{get_or_from_slice_get, slice_get-get_or, slice_get_within}
use Rattle.std.proofs.lemmas.List.Sorted.{Contains-permutation, IsPermutation-keeps, IsPermutation-sym}
use Rattle.brl_pairs.specs.Sorted.{AreByNumbers, AreMatches, DoMatch, HaveOwnPlaces, IsAtItsPlace, IsSortedOf, cells_of, is_before, or_none}
use Rattle.brl_pairs.specs.declared.edge.Edge.{Edge}
use Rattle.brl_pairs.specs.declared.sorted.SortedEdge.{SortedEdge}
use Rattle.brl_pairs.proofs.Lists.{inside, push_cases, same_place, set_cases}
use Rattle.brl_pairs.proofs.Unmatched.{match_or_not}

pub contained : {X : Type 0} (xs : List X) (k : ℕ) (x : X) → slice_get xs k ≡ Some x → Contains xs x
contained xs k x at = (k, slice_get_within xs k x at, get_or_from_slice_get xs k x x at)

pub place_of : {X : Type 0} (xs : List X) (x : X) → Contains xs x → (k : ℕ) × (slice_get xs k ≡ Some x)
place_of xs x h = (h.0, slice_get-get_or xs h.0 x h.1 ∙ ap (λ z. Some z) h.2)

-- the numbers stay right where more cells are kept
module _ (old new : List (List ℕ)) (stays : (k : ℕ) (own : List ℕ) → slice_get old k ≡ Some own → slice_get new k ≡ Some own) where
  still_at_place : (edges : List Edge) (x : SortedEdge) → IsAtItsPlace old edges x → IsAtItsPlace new edges x
  still_at_place edges x h = record { edge = h.edge; at = h.at; same_cells = stays x.cells h.edge.cells h.same_cells; same_next = h.same_next }

  same_cells_of : (edges : List Edge) (x : SortedEdge) → IsAtItsPlace old edges x → cells_of new x ≡ cells_of old x
  same_cells_of edges x h = ap or_none (stays x.cells h.edge.cells h.same_cells) ∙ sym (ap or_none h.same_cells)

  pub still_sorted : (edges : List Edge) (sorted : List SortedEdge) → IsSortedOf old edges sorted → IsSortedOf new edges sorted
  still_sorted edges sorted h = record {
    by_numbers = record { only = λ x is. still_at_place edges x (h.by_numbers.only x is); all = h.by_numbers.all };
    ascending = λ k d low below.
        let next = same_cells_of edges (get_or sorted (k + 1) d) (h.by_numbers.only _ (at (k + 1) d below)) in
        let here = same_cells_of edges (get_or sorted k d) (h.by_numbers.only _ (at k d (omega (arith, below)))) in
        ap (λ (own : List ℕ). is_before own (cells_of new (get_or sorted k d))) next ∙ ap (is_before (cells_of old (get_or sorted (k + 1) d))) here ∙ h.ascending k d low below;
    once = h.once;
  }
    where
      at : (k : ℕ) (d : SortedEdge) → k < length sorted → Contains sorted (get_or sorted k d)
      at k d within = contained sorted k (get_or sorted k d) (slice_get-get_or sorted k d within)

-- another order
pub moved_by_numbers : (cells : List (List ℕ)) (edges : List Edge) (xs ys : List SortedEdge) → IsPermutation xs ys → AreByNumbers cells edges xs → AreByNumbers cells edges ys
moved_by_numbers cells edges xs ys moved h = record {
  only = λ x is. h.only x (Contains-permutation ys xs x (IsPermutation-sym xs ys moved) is);
  all = λ place e at. (let x = h.all place e at in (x.0, Contains-permutation xs ys x.0 moved x.1, x.2));
}

-- the position from which an exchange of two elements brings one to this position
abbrev IsMoved : ℕ → ℕ → ℕ → ℕ → Type 0
IsMoved i j to from = ((to ≡ j) × (from ≡ i)) ⊎ (((to ≡ j → ⊥) × (to ≡ i) × (from ≡ j)) ⊎ ((to ≡ j → ⊥) × (to ≡ i → ⊥) × (from ≡ to)))

one_target : (i j k l from : ℕ) → IsMoved i j k from → IsMoved i j l from → k ≡ l
one_target i j k l from a b = elim a [
  | inl x ↦ elim b [ inl y ↦ omega (arith, x, y) | inr z ↦ elim z [ inl y ↦ omega (arith, x, y) | inr y ↦ omega (arith, x, y) ] ]
  | inr w ↦ elim w [
    | inl x ↦ elim b [ inl y ↦ omega (arith, x, y) | inr z ↦ elim z [ inl y ↦ omega (arith, x, y) | inr y ↦ omega (arith, x, y) ] ]
    | inr x ↦ elim b [ inl y ↦ omega (arith, x, y) | inr z ↦ elim z [ inl y ↦ omega (arith, x, y) | inr y ↦ omega (arith, x, y) ] ]
  ]
]

source : (l : List SortedEdge) (i j : ℕ) (d : SortedEdge) → i < length l → j < length l → (k : ℕ) (z : SortedEdge) → slice_get (set (set l i (get_or l j d)) j (get_or l i d)) k ≡ Some z
    → (from : ℕ) × (slice_get l from ≡ Some z) × IsMoved i j k from
source l i j d i_in j_in k z at = elim (set_cases (set l i (get_or l j d)) j (get_or l i d) k z at) [
  | inl last ↦ (i, slice_get-get_or l i d i_in ∙ ap (λ (x : SortedEdge). Some x) last.1, inl (last.0, refl))
  | inr other ↦ elim (set_cases l i (get_or l j d) k z other.1) [
    | inl first ↦ (j, slice_get-get_or l j d j_in ∙ ap (λ (x : SortedEdge). Some x) first.1, inr (inl (other.0, first.0, refl)))
    | inr there ↦ (k, there.1, inr (inr (other.0, there.0, refl)))
  ]
]

own_places_swapped : (l : List SortedEdge) (i j : ℕ) → i < length l → j < length l → HaveOwnPlaces l → HaveOwnPlaces (swap l i j)
own_places_swapped l i j i_in j_in own =
    let d : SortedEdge = record { cells = 0; next = 0; place = 0 } in
    subst HaveOwnPlaces (swap_is l i j d i_in j_in) (λ a b x y a_at b_at same.
    let p = source l i j d i_in j_in a x a_at in
    let q = source l i j d i_in j_in b y b_at in
    let from : p.0 ≡ q.0 = own p.0 q.0 x y p.1 q.1 same in
    one_target i j a b q.0 (subst (IsMoved i j a) from p.2) q.2)

pub moved_own_places : (xs ys : List SortedEdge) → IsPermutation xs ys → HaveOwnPlaces xs → HaveOwnPlaces ys
moved_own_places xs ys moved own = IsPermutation-keeps xs HaveOwnPlaces own own_places_swapped ys moved

-- ---- One edge after the other

-- these are the first edges, each at its own place
abbrev pub AreNumbered : List (List ℕ) → List Edge → List SortedEdge → Type 0
AreNumbered cells edges numbered = (k : ℕ) (x : SortedEdge) → slice_get numbered k ≡ Some x → (x.place ≡ k) × IsAtItsPlace cells edges x

pub all_numbered : (cells : List (List ℕ)) (edges : List Edge) (numbered : List SortedEdge) → length numbered ≡ length edges → AreNumbered cells edges numbered → AreByNumbers cells edges numbered
all_numbered cells edges numbered many h = record {
  only = λ x is. (let k = place_of numbered x is in (h k.0 x k.1).1);
  all = λ place e at. (
      let within : place < length edges = slice_get_within edges place e at in
      let x = inside numbered place (omega (arith, within, many)) in
      (x.0, contained numbered place x.0 x.1, (h place x.0 x.1).0));
}

-- each edge has its own position for its place
abbrev pub ArePlacedInOrder : List SortedEdge → Type 0
ArePlacedInOrder numbered = (k : ℕ) (x : SortedEdge) → slice_get numbered k ≡ Some x → x.place ≡ k

pub one_placed : (numbered now : List SortedEdge) (x : SortedEdge) → ArePlacedInOrder numbered → now ≡ numbered ++ x ∷ [] → x.place ≡ length numbered → ArePlacedInOrder now
one_placed numbered now x h is here k y y_at = elim (push_cases numbered x k y (ap (λ (l : List SortedEdge). slice_get l k) (sym is) ∙ y_at)) [
  | inl before ↦ h k y before
  | inr last ↦ ap (λ (z : SortedEdge). z.place) (sym last.1) ∙ here ∙ sym last.0
]

pub placed_own_places : (numbered : List SortedEdge) → ArePlacedInOrder numbered → HaveOwnPlaces numbered
placed_own_places numbered h i j x y x_at y_at same = sym (h i x x_at) ∙ same ∙ h j y y_at

module _ (old new : List (List ℕ)) (stays : (k : ℕ) (own : List ℕ) → slice_get old k ≡ Some own → slice_get new k ≡ Some own) where
  pub one_numbered : (edges : List Edge) (numbered now : List SortedEdge) (e : Edge) (x : SortedEdge) → AreNumbered old edges numbered → now ≡ numbered ++ x ∷ [] → slice_get edges (length numbered) ≡ Some e
      → x.place ≡ length numbered → slice_get new x.cells ≡ Some e.cells → x.next ≡ e.next → AreNumbered new edges now
  one_numbered edges numbered now e x h is at here cells next k y y_at =
      elim (push_cases numbered x k y (ap (λ (l : List SortedEdge). slice_get l k) (sym is) ∙ y_at)) [
        | inl before ↦ (let z = h k y before in (z.0, still_at_place old new stays edges y z.1))
        | inr last ↦ subst (λ (z : SortedEdge). (z.place ≡ k) × IsAtItsPlace new edges z) last.1
            (here ∙ sym last.0, record { edge = e; at = ap (slice_get edges) here ∙ at; same_cells = cells; same_next = next })
      ]

-- ---- Looking edges up

-- the edge at the place is one of those that match, or it doesn't match
pub found_or_unmatched : (cells : List (List ℕ)) (edges : List Edge) (sorted : List SortedEdge) → IsSortedOf cells edges sorted → (lead : List ℕ) (found : List SortedEdge) → AreMatches cells sorted lead found
    → (place : ℕ) (e : Edge) → slice_get edges place ≡ Some e → ((k : ℕ) × (x : SortedEdge) × (slice_get found k ≡ Some x) × (x.place ≡ place)) ⊎ (DoMatch lead e.cells → ⊥)
found_or_unmatched cells edges sorted h lead found those place e at =
    let x = h.by_numbers.all place e at in
    let own = h.by_numbers.only x.0 x.1 in
    let same : own.edge ≡ e = same_place edges place own.edge e (ap (slice_get edges) (sym x.2) ∙ own.at) at in
    let own_cells : cells_of cells x.0 ≡ e.cells = ap or_none own.same_cells ∙ ap (λ (z : Edge). z.cells) same in
    elim (match_or_not lead e.cells) [
      | inl m ↦ (
          let k = place_of found x.0 (those.those.all x.0 x.1 (subst (DoMatch lead) (sym own_cells) m)) in
          inl (k.0, x.0, k.1, x.2))
      | inr other ↦ inr other
    ]

-- the cells with a number that is kept
pub kept_at : (cells : List (List ℕ)) (n : ℕ) → n < length cells → slice_get cells n ≡ Some (or_none (slice_get cells n))
kept_at cells n within = (let own = inside cells n within in own.1 ∙ ap (λ (o : _). Some (or_none o)) (sym own.1))
