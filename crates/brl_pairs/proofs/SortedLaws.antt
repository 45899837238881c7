-- The edges that lie in an interval of the order by cells.
use Rattle.std.proofs.Common.{◌≡◌, ℕ, ◌+◌, ◌-◌, ◌<◌, ◌≤◌, Bool, true, false, List, [], ◌++◌, ◌⊎◌, inl, inr, length, take, get_or, Some, slice_get, refl, sym, ◌∙◌, ap, subst, arith, true≢false, Contains}
use Rattle.std.specs.List.{AllWithin}
use Rattle.std.specs.List.Sorted.{IsPartitionPoint, IsPartitionedBy, IsPermutation}
use Rattle.std.proofs.lemmas.Bool.{cases_lt, false_from_ne_true}
use Rattle.std.proofs.lemmas.Cmp.{nat_list_cmp_total}
use Rattle.std.proofs.lemmas.List.{get_or_default, get_or-drop, get_or-take, length-drop, length-take-le}
use Rattle.std.proofs.lemmas.Option.{slice_get-get_or}
use Rattle.std.proofs.lemmas.List.Elements.{Contains-append_cases, Contains-append_left, Contains-append_right}
use Rattle.std.proofs.lemmas.List.Sorted.{Contains-permutation, IsPermutation-sym, ranks_by, sorted_far}
use Rattle.brl_pairs.specs.Sorted.{AreAscending, AreThose, IsNotBefore, cells_of, is_before}
use Rattle.brl_pairs.specs.declared.sorted.SortedEdge.{SortedEdge}
use Rattle.brl_pairs.proofs.CellOrder.{weak_order}
use Rattle.brl_pairs.proofs.Lists.{same_place}

-- the edge at this position
abbrev pub edge_at : List SortedEdge → ℕ → SortedEdge
edge_at sorted n = get_or sorted n (record { cells = 0; next = 0; place = 0 })

pub is_at : (sorted : List SortedEdge) (n : ℕ) → n < length sorted → slice_get sorted n ≡ Some (edge_at sorted n)
is_at sorted n within = slice_get-get_or sorted n (record { cells = 0; next = 0; place = 0 }) within

-- what holds for it holds for each edge that is there
pub for_edge_at : (P : SortedEdge → Type 0) (sorted : List SortedEdge) (n : ℕ) → n < length sorted → P (edge_at sorted n) → (y : SortedEdge) → slice_get sorted n ≡ Some y → P y
for_edge_at P sorted n within h y y_at = subst P (same_place sorted n (edge_at sorted n) y (is_at sorted n within) y_at) h

-- the first edges of a list pass a test of cells, as many as were counted
abbrev pub HavePassed : (List ℕ → Bool) → List (List ℕ) → List SortedEdge → ℕ → Type 0
HavePassed q cells rest count = record {
  within : count ≤ length rest;
  passing : AllWithin (λ (x : SortedEdge). q (cells_of cells x) ≡ true) rest 0 count;
}

-- all edges were counted, or the next one doesn't pass
abbrev pub HasStopped : (List ℕ → Bool) → List (List ℕ) → List SortedEdge → ℕ → Type 0
HasStopped q cells rest count = (length rest ≤ count) ⊎ ((count < length rest) × (q (cells_of cells (edge_at rest count)) ≡ false))

module _ (cells : List (List ℕ)) (sorted : List SortedEdge) (ascending : AreAscending cells sorted) where
  -- a later edge has no cells that come before
  pub far : (i j : ℕ) (d : SortedEdge) → i ≤ j → j < length sorted → is_before (cells_of cells (get_or sorted j d)) (cells_of cells (get_or sorted i d)) ≡ false
  far i j d le within = sorted_far (λ a b. is_before (cells_of cells a) (cells_of cells b)) (ranks_by nat_list_cmp_total (cells_of cells)) sorted ascending i j d le within

  -- the edges whose cells come before given ones are first
  pub before_first : (start : List ℕ) → IsPartitionedBy (λ x. is_before (cells_of cells x) start) sorted
  before_first start i j d le within h = by (is_before (cells_of cells (get_or sorted i d)) start) refl
    where
      by : (b : Bool) → is_before (cells_of cells (get_or sorted i d)) start ≡ b → is_before (cells_of cells (get_or sorted i d)) start ≡ true
      by true e = e
      by false e = absurd (true≢false (sym h ∙ weak_order.chain (cells_of cells (get_or sorted j d)) (cells_of cells (get_or sorted i d)) start (far i j d le within) e))

  -- a test of cells that holds in an interval which begins at some cells
  module _ (q : List ℕ → Bool) (start : List ℕ) (rest : List SortedEdge) (from : IsNotBefore cells start sorted rest)
      (least : (x : List ℕ) → q x ≡ true → is_before x start ≡ false)
      (between : (x y : List ℕ) → is_before x start ≡ false → is_before y x ≡ false → q y ≡ true → q x ≡ true) where
    long : length rest ≡ length sorted - from.low
    long = ap length from.is ∙ length-drop from.low sorted

    at_rest : (k : ℕ) (d : SortedEdge) → get_or rest k d ≡ get_or sorted (from.low + k) d
    at_rest k d = ap (λ (l : List SortedEdge). get_or l k d) from.is ∙ get_or-drop from.low sorted k d

    passing_first : IsPartitionedBy (λ x. q (cells_of cells x)) rest
    passing_first i j d le within h =
        let low_within : from.low ≤ length sorted = from.within in
        let size : length rest ≡ length sorted - from.low = long in
        let y : q (cells_of cells (get_or sorted (from.low + j) d)) ≡ true = subst (λ (x : SortedEdge). q (cells_of cells x) ≡ true) (at_rest j d) h in
        let x : q (cells_of cells (get_or sorted (from.low + i) d)) ≡ true =
        between (cells_of cells (get_or sorted (from.low + i) d)) (cells_of cells (get_or sorted (from.low + j) d))
        (from.from (from.low + i) d (omega arith) (omega (arith, le, within, size, low_within)))
        (far (from.low + i) (from.low + j) d (omega (arith, le)) (omega (arith, within, size, low_within))) y in
        subst (λ (z : SortedEdge). q (cells_of cells z) ≡ true) (sym (at_rest i d)) x

    -- a walk that stopped has come to the end of those that pass
    stopped_point : (count : ℕ) → AllWithin (λ x. q (cells_of cells x) ≡ true) rest 0 count → (length rest ≤ count) ⊎ ((d : SortedEdge) → q (cells_of cells (get_or rest count d)) ≡ false)
        → IsPartitionPoint (λ x. q (cells_of cells x) ≡ true) (λ x. q (cells_of cells x) ≡ false) rest count
    stopped_point count passing done = (
      passing,
      λ k d from_count below. elim done [
        | inl all ↦ absurd (omega (arith, all, from_count, below))
        | inr stop ↦ false_from_ne_true (q (cells_of cells (get_or rest k d))) (λ passes. true≢false (sym (passing_first count k d from_count below passes) ∙ stop d))
      ],
    )

    module _ (count : ℕ) (bound : count ≤ length rest) (passing : AllWithin (λ x. q (cells_of cells x) ≡ true) rest 0 count)
        (done : (length rest ≤ count) ⊎ ((d : SortedEdge) → q (cells_of cells (get_or rest count d)) ≡ false)) where
      many : length (take count rest) ≡ count
      many = length-take-le count rest bound

      -- those that it has passed are all that pass
      pub interval : AreThose (λ own. q own ≡ true) cells sorted (take count rest)
      interval = record { only = only; all = all }
        where
          point : IsPartitionPoint (λ x. q (cells_of cells x) ≡ true) (λ x. q (cells_of cells x) ≡ false) rest count
          point = stopped_point count passing done

          only : (x : SortedEdge) → Contains (take count rest) x → Contains sorted x × (q (cells_of cells x) ≡ true)
          only x h =
              let size : length (take count rest) ≡ count = many in
              let whole : length rest ≡ length sorted - from.low = long in
              let low_within : from.low ≤ length sorted = from.within in
              let less : h.0 < count = omega (arith, h.1, size) in
              let is : get_or rest h.0 x ≡ x = sym (get_or-take count rest h.0 x less) ∙ h.2 in (
                (from.low + h.0, omega (arith, less, bound, whole, low_within), sym (at_rest h.0 x) ∙ is),
                subst (λ (z : SortedEdge). q (cells_of cells z) ≡ true) is (point.0 h.0 x (omega arith) less),
              )

          all : (x : SortedEdge) → Contains sorted x → q (cells_of cells x) ≡ true → Contains (take count rest) x
          all x h passes =
              let size : length (take count rest) ≡ count = many in
              let whole : length rest ≡ length sorted - from.low = long in
              let low_within : from.low ≤ length sorted = from.within in
              let h_within : h.0 < length sorted = h.1 in
              elim (cases_lt h.0 from.low) [
                | inl low ↦ absurd (true≢false (sym (subst (λ (z : SortedEdge). is_before (cells_of cells z) start ≡ true) h.2 (from.before h.0 x (omega arith) low)) ∙ least (cells_of cells x) passes))
                | inr high ↦ (
                    let back : from.low + (h.0 - from.low) ≡ h.0 = omega (arith, high) in
                    let is : get_or rest (h.0 - from.low) x ≡ x = at_rest (h.0 - from.low) x ∙ ap (λ (k : ℕ). get_or sorted k x) back ∙ h.2 in
                    elim (cases_lt (h.0 - from.low) count) [
                      | inl less ↦ (h.0 - from.low, omega (arith, less, size), get_or-take count rest (h.0 - from.low) x less ∙ is)
                      | inr more ↦ absurd (true≢false (sym passes ∙ subst (λ (z : SortedEdge). q (cells_of cells z) ≡ false) is (point.1 (h.0 - from.low) x more (omega (arith, high, whole, low_within, h_within)))))
                    ])
              ]

    -- those that it has counted where it has stopped are all that pass
    pub counted : (count : ℕ) → HavePassed q cells rest count → HasStopped q cells rest count → AreThose (λ own. q own ≡ true) cells sorted (take count rest)
    counted count passed stopped = interval count passed.within passed.passing done
      where
        done : (length rest ≤ count) ⊎ ((d : SortedEdge) → q (cells_of cells (get_or rest count d)) ≡ false)
        done = elim stopped [
          | inl all ↦ inl all
          | inr next ↦ inr (λ d. subst (λ (x : SortedEdge). q (cells_of cells x) ≡ false) (get_or_default rest count (record { cells = 0; next = 0; place = 0 }) d next.0) next.1)
        ]

-- ---- Lists of edges

module _ (cells : List (List ℕ)) (edges : List SortedEdge) where
  -- another word for the same property
  pub same_those : (P Q : List ℕ → Type 0) (found : List SortedEdge) → ((own : List ℕ) → P own → Q own) → ((own : List ℕ) → Q own → P own) → AreThose P cells edges found → AreThose Q cells edges found
  same_those P Q found to back h = record {
    only = λ x is. ((h.only x is).0, to (cells_of cells x) (h.only x is).1);
    all = λ x within q. h.all x within (back (cells_of cells x) q);
  }

  pub none_there : AreThose (λ _. ⊥) cells edges []
  none_there = record { only = λ x h. absurd (omega (arith, h.1)); all = λ x within h. absurd h }

  pub joined_those : (P Q : List ℕ → Type 0) (xs ys : List SortedEdge) → AreThose P cells edges xs → AreThose Q cells edges ys → AreThose (λ own. P own ⊎ Q own) cells edges (xs ++ ys)
  joined_those P Q xs ys h k = record {
    only = λ x is. elim (Contains-append_cases xs ys x is) [ inl a ↦ ((h.only x a).0, inl (h.only x a).1) | inr b ↦ ((k.only x b).0, inr (k.only x b).1) ];
    all = λ x within is. elim is [ inl p ↦ Contains-append_left xs ys x (h.all x within p) | inr q ↦ Contains-append_right xs ys x (k.all x within q) ];
  }

  pub moved_those : (P : List ℕ → Type 0) (xs ys : List SortedEdge) → IsPermutation xs ys → AreThose P cells edges xs → AreThose P cells edges ys
  moved_those P xs ys moved h = record {
    only = λ x is. h.only x (Contains-permutation ys xs x (IsPermutation-sym xs ys moved) is);
    all = λ x within p. Contains-permutation xs ys x moved (h.all x within p);
  }
