-- What the splits of a state that was passed tell of the splits of another one.
use Rattle.std.proofs.Common.{◌≡◌, ◌≢◌, ℕ, ◌<◌, Bool, true, List, [], ◌∷◌, ◌++◌, ◌⊎◌, inl, inr, length, Some, slice_get, refl, sym, ◌∙◌, ap, subst, subst₂, arith}
use Rattle.std.specs.Global.{Vec}
use Rattle.std.proofs.lemmas.Option.{slice_get_within}
use Rattle.brl_pairs.specs.Body.{NumberPair}
use Rattle.brl_pairs.specs.Excused.{AreExcusedEdges}
use Rattle.brl_pairs.specs.NumberPairs.{IsMissing, IsThere}
use Rattle.brl_pairs.specs.Shared.{AreShared}
use Rattle.brl_pairs.specs.Sorted.{IsSortedOf}
use Rattle.brl_pairs.specs.declared.edge.Edge.{Edge}
use Rattle.brl_pairs.specs.declared.excused.Excused.{Excused}
use Rattle.brl_pairs.specs.declared.sorted.SortedEdge.{SortedEdge}
use Rattle.brl_pairs.proofs.Lists.{either_way, inside, push_cases, same_place}
use Rattle.brl_pairs.proofs.Numbered.{contained}
use Rattle.brl_closure.specs.Passed.{AreListedIfShared, ArePassed, HasCellsAndNext, IsPassed, MissNone}
use Rattle.brl_closure.specs.SearchView.{Stays}
use Rattle.brl_closure.specs.Sorted.{SortedView}
use Rattle.brl_closure.specs.Steps.{HasOfRules, MissUnexcused}
use Rattle.brl_closure.proofs.MissingLaws.{unexcused_other_order}

-- ---- Edges that are shared with a state that was passed

module _ (pairs : List NumberPair) (edges : SortedView) (others : List SortedEdge) (shared : List Bool) (are : AreShared edges.sorted others shared) where
  own_apart : (k l : ℕ) → k ≢ l → slice_get shared k ≡ Some true → slice_get shared l ≡ Some true → are.own k ≢ are.own l
  own_apart k l differ k_marked l_marked same = elim (either_way k l differ) [
    | inl less ↦ (let before = are.apart k l less k_marked l_marked in omega (arith, before, same))
    | inr more ↦ (let before = are.apart l k more l_marked k_marked in omega (arith, before, same))
  ]

  pub shared_listed : IsPassed pairs edges.cells others → AreListedIfShared pairs edges shared
  shared_listed passed k l z w e f differ k_marked l_marked z_at w_at z_is w_is =
      let a = are.like k z k_marked z_at in
      let b = are.like l w l_marked w_at in
      passed.listed (are.own k) (are.own l) a.other b.other e f (own_apart k l differ k_marked l_marked) a.at b.at
      (record { own_cells = ap (slice_get edges.cells) a.same_cells ∙ z_is.own_cells; next = a.same_next ∙ z_is.next })
      (record { own_cells = ap (slice_get edges.cells) b.same_cells ∙ w_is.own_cells; next = b.same_next ∙ w_is.next })

-- ---- More cells are kept

module _ (old new : List (List ℕ)) (stays : Stays old new) where
  as_before : (z : SortedEdge) (e : Edge) → z.cells < length old → HasCellsAndNext new z e → HasCellsAndNext old z e
  as_before z e kept is =
      let own = inside old z.cells kept in
      let same : own.0 ≡ e.cells = same_place new z.cells own.0 e.cells (stays z.cells own.0 own.1) is.own_cells in
      record { own_cells = own.1 ∙ ap (λ (cells : List ℕ). Some cells) same; next = is.next }

  pub still_passed : (pairs : List NumberPair) (sorted : List SortedEdge) → IsPassed pairs old sorted → IsPassed pairs new sorted
  still_passed pairs sorted h = record {
    kept = λ k z at. (let own = inside old z.cells (h.kept k z at) in slice_get_within new z.cells own.0 (stays z.cells own.0 own.1));
    listed = λ k l z w e f differ z_at w_at z_is w_is. h.listed k l z w e f differ z_at w_at (as_before z e (h.kept k z z_at) z_is) (as_before w f (h.kept l w w_at) w_is);
  }

-- from the cells that were kept before a state is listed to those of its edges
pub stays_sorted : (before parted listed ranked sorted : List (List ℕ)) → parted ≡ before → Stays parted listed → ranked ≡ listed → sorted ≡ ranked → Stays before sorted
stays_sorted before parted listed ranked sorted first stays ranks same = subst (Stays before) (sym (same ∙ ranks)) (subst (λ (cells : List (List ℕ)). Stays cells listed) first stays)

-- ---- A state none of whose splits is missing

-- edges with the same cells and next states
missing_alike : (pairs : List NumberPair) (e f g h : Edge) → e.next ≡ g.next → e.cells ≡ g.cells → f.next ≡ h.next → f.cells ≡ h.cells → IsMissing pairs e.next e.cells f → IsMissing pairs g.next g.cells h
missing_alike pairs e f g h next cells other_next other_cells gap = elim gap [
  | inl still ↦ inl (record {
    rest = still.rest;
    longer = sym cells ∙ still.longer ∙ ap (λ (own : List ℕ). own ++ still.rest) other_cells;
    missing = λ there. still.missing (subst₂ (λ (a b : ℕ). IsThere pairs a b still.rest) (sym next) (sym other_next) there);
  })
  | inr swapped ↦ inr (record {
    rest = swapped.rest;
    some = swapped.some;
    shorter = sym other_cells ∙ swapped.shorter ∙ ap (λ (own : List ℕ). own ++ swapped.rest) cells;
    missing = λ there. swapped.missing (subst₂ (λ (a b : ℕ). IsThere pairs a b swapped.rest) (sym other_next) (sym next) there);
  })
]

module _ (excused : Excused) (accepted : excused.accepted ≡ []) (exchanged : excused.exchanged ≡ []) where
  none_excused : (x y : Edge) → AreExcusedEdges excused.exchanged excused.accepted x y → ⊥
  none_excused x y h = by (subst₂ (λ (ex ac : List (ℕ × ℕ)). AreExcusedEdges ex ac x y) exchanged accepted h)
    where
      by : AreExcusedEdges [] [] x y → ⊥
      by (inl have) = cc
      by (inr exchange) = (let have = exchange.rules in cc)

  module _ (pairs : List NumberPair) (cells : List (List ℕ)) (edges : List Edge) (sorted : List SortedEdge) (h : IsSortedOf cells edges sorted) (none : MissNone excused pairs edges) where
    -- in either order
    none_missing : (i j : ℕ) (x y : Edge) → i ≢ j → slice_get edges i ≡ Some x → slice_get edges j ≡ Some y → IsMissing pairs x.next x.cells y → ⊥
    none_missing i j x y differ x_at y_at gap = elim (either_way i j differ) [
      | inl less ↦ none i j x y less x_at y_at (gap, none_excused x y)
      | inr more ↦ none j i y x more y_at x_at (unexcused_other_order excused pairs x y (gap, none_excused x y))
    ]

    pub passed_without : IsPassed pairs cells sorted
    passed_without = record {
      kept = λ k z at. (let own = h.by_numbers.only z (contained sorted k z at) in slice_get_within cells z.cells own.edge.cells own.same_cells);
      listed = λ k l z w e f differ z_at w_at z_is w_is gap. (
          let a = h.by_numbers.only z (contained sorted k z z_at) in
          let b = h.by_numbers.only w (contained sorted l w w_at) in
          none_missing z.place w.place a.edge b.edge (λ same. differ (h.once k l z w z_at w_at same)) a.at b.at
          (missing_alike pairs e f a.edge b.edge (sym z_is.next ∙ a.same_next) (same_place cells z.cells e.cells a.edge.cells z_is.own_cells a.same_cells)
          (sym w_is.next ∙ b.same_next) (same_place cells w.cells f.cells b.edge.cells w_is.own_cells b.same_cells) gap));
    }

pub miss_none : (excused : Excused) (pairs : List NumberPair) (edges : List Edge) → ((first second : ℕ) → HasOfRules (MissUnexcused excused pairs) edges first second → ⊥) → MissNone excused pairs edges
miss_none excused pairs edges none i j x y less x_at y_at gap =
    none x.rule y.rule (record { i = i; j = j; earlier = x; later = y; in_order = less; earlier_at = x_at; later_at = y_at; has_first = refl; has_second = refl; has = gap })

-- ---- Lists of edges

module _ (pairs : List NumberPair) (cells : List (List ℕ)) where
  pub none_passed : ArePassed pairs cells []
  none_passed n list at = cc

  pub passed_push : (old room now : List (Vec SortedEdge)) (list : Vec SortedEdge) → (room ≡ old) ⊎ (room ≡ []) → now ≡ room ++ list ∷ [] → ArePassed pairs cells old → IsPassed pairs cells list.items → ArePassed pairs cells now
  passed_push old room now list kept is before here n other at =
      elim (push_cases room list n other (subst (λ (l : List (Vec SortedEdge)). slice_get l n ≡ Some other) is at)) [
        | inl early ↦ (
            let those : ArePassed pairs cells room = elim kept [ inl same ↦ subst (ArePassed pairs cells) (sym same) before | inr none ↦ subst (ArePassed pairs cells) (sym none) none_passed ] in
            those n other early)
        | inr last ↦ subst (λ (l : Vec SortedEdge). IsPassed pairs cells l.items) last.1 here
      ]

module _ (old new : List (List ℕ)) (stays : Stays old new) where
  pub still_all_passed : (pairs : List NumberPair) (lists : List (Vec SortedEdge)) → ArePassed pairs old lists → ArePassed pairs new lists
  still_all_passed pairs lists h n list at = still_passed old new stays pairs list.items (h n list at)
