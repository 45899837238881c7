-- The edges that begin others, and those that begin with them, by the order of cells.
use Rattle.std.proofs.Common.{◌≡◌, ◌⊎◌, ℕ, zero, suc, ◌+◌, ◌-◌, ◌<◌, ◌≤◌, Bool, true, false, set, List, [], ◌++◌, inl, inr, length, get_or, Some, slice_get, sym, ◌∙◌, ap, subst, arith, append_assoc, Contains, length-set, append-nil, get_or-set_same}
use Rattle.std.specs.List.Sorted.{IsNonDecreasingBy, IsPermutation}
use Rattle.std.proofs.lemmas.Bool.{cases_eq, cases_lt}
use Rattle.std.proofs.lemmas.List.Elements.{Contains-append_cases, Contains-append_left, Contains-append_right}
use Rattle.std.proofs.lemmas.List.Sorted.{Contains-permutation, IsPermutation-sym}
use Rattle.std.proofs.lemmas.Option.{get_or_from_slice_get, slice_get-get_or, slice_get_within}
use Rattle.brl_pairs.specs.Sorted.{AreAscending, BeginsWith, DoMatch, cells_of, is_before}
use Rattle.brl_pairs.specs.Splits.{AreEarlier, AreMarks, AreOthers, AreShorter, AreWithin, IsLastShorter, IsOther}
use Rattle.brl_pairs.specs.declared.sorted.SortedEdge.{SortedEdge}
use Rattle.brl_pairs.proofs.CellOrder.{beginning_interval, beginning_not_before, begins_from_test, same_cells, test_from_begins}
use Rattle.brl_pairs.proofs.Lists.{inside, same_place, set_cases, three_ways}
use Rattle.brl_pairs.proofs.Numbered.{contained, place_of}
use Rattle.brl_pairs.proofs.SortedLaws.{edge_at, far, is_at}

-- an edge is added to a list if its place is before this one
pub record IsAdded (x : SortedEdge) (end : ℕ) (old new : List SortedEdge) : Type 0 where
  pub only : (z : SortedEdge) → Contains new z → Contains old z ⊎ ((x ≡ z) × (x.place < end))
  pub kept : (z : SortedEdge) → Contains old z → Contains new z
  pub added : x.place < end → Contains new x

-- the place is before the limit, and the cells begin those of an edge, or begin with them
abbrev pub IsEarlierShorter : List (List ℕ) → ℕ → SortedEdge → SortedEdge → Type 0
IsEarlierShorter cells limit y x = BeginsWith (cells_of cells y) (cells_of cells x) × (x.place < limit)

abbrev pub IsEarlierLonger : List (List ℕ) → ℕ → SortedEdge → SortedEdge → Type 0
IsEarlierLonger cells limit y x = BeginsWith (cells_of cells x) (cells_of cells y) × (x.place < limit)

-- of the edges at these positions none has cells that begin these
abbrev pub NoneBegins : List (List ℕ) → List SortedEdge → ℕ → ℕ → List ℕ → Type 0
NoneBegins cells sorted low high own = (k : ℕ) (x : SortedEdge) → low ≤ k → k < high → slice_get sorted k ≡ Some x → BeginsWith own (cells_of cells x) → ⊥

-- a walk back along the chain of shorter edges, from the one at `end`, has come to the one before
-- `last`
pub record HasComeTo (cells : List (List ℕ)) (sorted : List SortedEdge) (shorter : List ℕ) (end last : ℕ) : Type 0 where
  pub known : AreShorter cells sorted shorter
  pub within : end < length sorted
  pub low : last ≤ end
  pub some : 0 < last
  pub listed : last ≤ length shorter

-- one list of cells begins with another where neither comes before the other
equal_begins : (xs ys : List ℕ) → is_before xs ys ≡ false → is_before ys xs ≡ false → BeginsWith xs ys
equal_begins xs ys h k = ([], same_cells xs ys h k ∙ sym (append-nil ys))

pub begins_through : (xs ys zs : List ℕ) → BeginsWith xs ys → BeginsWith ys zs → BeginsWith xs zs
begins_through xs ys zs a b = (b.0 ++ a.0, a.1 ∙ ap (λ (l : List ℕ). l ++ a.0) b.1 ∙ append_assoc zs b.0 a.0)

module _ (cells : List (List ℕ)) (sorted : List SortedEdge) (ascending : AreAscending cells sorted) where
  -- a later edge has no cells that come before
  later_not_before : (i j : ℕ) (x y : SortedEdge) → i ≤ j → slice_get sorted i ≡ Some x → slice_get sorted j ≡ Some y → is_before (cells_of cells y) (cells_of cells x) ≡ false
  later_not_before i j x y le x_at y_at =
      subst (λ (z : SortedEdge). is_before (cells_of cells z) (cells_of cells x) ≡ false) (get_or_from_slice_get sorted j y x y_at)
      (subst (λ (z : SortedEdge). is_before (cells_of cells (get_or sorted j x)) (cells_of cells z) ≡ false) (get_or_from_slice_get sorted i x x x_at)
      (far cells sorted ascending i j x le (slice_get_within sorted j y y_at)))

  -- what begins the cells of a later edge begins those between
  between_begins : (i j l : ℕ) (x y z : SortedEdge) → i ≤ j → j ≤ l → slice_get sorted i ≡ Some x → slice_get sorted j ≡ Some y → slice_get sorted l ≡ Some z
      → BeginsWith (cells_of cells z) (cells_of cells x) → BeginsWith (cells_of cells y) (cells_of cells x)
  between_begins i j l x y z first second x_at y_at z_at b =
      begins_from_test (cells_of cells y) (cells_of cells x)
      (beginning_interval (cells_of cells y) (cells_of cells z) (cells_of cells x) (later_not_before i j x y first x_at y_at) (later_not_before j l y z second y_at z_at)
      (test_from_begins (cells_of cells z) (cells_of cells x) b))

  -- where an earlier edge begins with the cells of a later one, they are the same
  begins_back : (i j : ℕ) (x y : SortedEdge) → i ≤ j → slice_get sorted i ≡ Some x → slice_get sorted j ≡ Some y → BeginsWith (cells_of cells x) (cells_of cells y) → BeginsWith (cells_of cells y) (cells_of cells x)
  begins_back i j x y le x_at y_at b =
      equal_begins (cells_of cells y) (cells_of cells x) (later_not_before i j x y le x_at y_at)
      (beginning_not_before (cells_of cells x) (cells_of cells y) (test_from_begins (cells_of cells x) (cells_of cells y) b))

  -- it is there where it was added
  added_at : (n : ℕ) (x : SortedEdge) (place : ℕ) (old new : List SortedEdge) → IsAdded x place old new → slice_get sorted n ≡ Some x → (k : ℕ) (z : SortedEdge) → k ≡ n → slice_get sorted k ≡ Some z → z.place < place → Contains new z
  added_at n x place old new h x_at k z here z_at less =
      let same : z ≡ x = same_place sorted n z x (ap (slice_get sorted) (sym here) ∙ z_at) x_at in
      subst (Contains new) (sym same) (h.added (subst (λ (w : SortedEdge). w.place < place) same less))

  -- ---- The chain of shorter edges

  module _ {shorter : List ℕ} {end last : ℕ} (walk : HasComeTo cells sorted shorter end last) where
    x_at : slice_get sorted (last - 1) ≡ Some (edge_at sorted (last - 1))
    x_at = is_at sorted (last - 1) (omega (arith, walk.within, walk.low, walk.some))

    next : IsLastShorter cells sorted (last - 1) (cells_of cells (edge_at sorted (last - 1))) (get_or shorter (last - 1) 0)
    next = walk.known (last - 1) (get_or shorter (last - 1) 0) (edge_at sorted (last - 1)) x_at (slice_get-get_or shorter (last - 1) 0 (omega (arith, walk.some, walk.listed)))

    pub next_before : get_or shorter (last - 1) 0 ≤ end
    next_before = (let le = next.before in omega (arith, le, walk.low))

    module _ (y : SortedEdge) (y_at : slice_get sorted end ≡ Some y) where
      -- none so far, and the one at hand doesn't begin these cells
      pub pass_by : (BeginsWith (cells_of cells y) (cells_of cells (edge_at sorted (last - 1))) → ⊥) → NoneBegins cells sorted last end (cells_of cells y) → NoneBegins cells sorted (get_or shorter (last - 1) 0) end (cells_of cells y)
      pass_by other none k z from less z_at b = elim (three_ways k (last - 1)) [
        | inl before ↦ next.others k z from before z_at (between_begins k (last - 1) end z (edge_at sorted (last - 1)) y (omega (arith, before)) (omega (arith, walk.low)) z_at x_at y_at b)
        | inr more ↦ elim more [
          | inl here ↦ other (subst (λ (w : SortedEdge). BeginsWith (cells_of cells y) (cells_of cells w)) (same_place sorted (last - 1) z (edge_at sorted (last - 1)) (ap (slice_get sorted) (sym here) ∙ z_at) x_at) b)
          | inr after ↦ none k z (omega (arith, after, walk.some)) less z_at b
        ]
      ]

      -- what begins the one at hand begins these cells too, if that does
      module _ (begins : BeginsWith (cells_of cells y) (cells_of cells (edge_at sorted (last - 1)))) where
        pub begins_next : (k : ℕ) (z : SortedEdge) → get_or shorter (last - 1) 0 ≡ k + 1 → slice_get sorted k ≡ Some z → BeginsWith (cells_of cells y) (cells_of cells z)
        begins_next k z is z_at = begins_through (cells_of cells y) (cells_of cells (edge_at sorted (last - 1))) (cells_of cells z) begins (next.begins k z is z_at)

        -- the edge at hand is added to those that begin these cells
        pub chain_step : (limit : ℕ) (old new : List SortedEdge) → IsAdded (edge_at sorted (last - 1)) limit old new → AreWithin (IsEarlierShorter cells limit y) sorted last end old
            → AreWithin (IsEarlierShorter cells limit y) sorted (get_or shorter (last - 1) 0) end new
        chain_step limit old new h before = record {
          only = λ z there. elim (h.only z there) [
            | inl was ↦ (let w = before.only z was in (w.0, (let le : last ≤ w.0 = w.1 in omega (arith, le, next.before)), w.2, w.3, w.4))
            | inr new ↦ (last - 1, next.before, omega (arith, walk.low, walk.some), subst (λ (w : SortedEdge). slice_get sorted (last - 1) ≡ Some w) new.0 x_at, subst (IsEarlierShorter cells limit y) new.0 (begins, new.1))
          ];
          all = λ k z from less z_at p. elim (three_ways k (last - 1)) [
            | inl lower ↦ absurd (next.others k z from lower z_at (between_begins k (last - 1) end z (edge_at sorted (last - 1)) y (omega (arith, lower)) (omega (arith, walk.low)) z_at x_at y_at p.0))
            | inr more ↦ elim more [
              | inl here ↦ added_at (last - 1) (edge_at sorted (last - 1)) limit old new h x_at k z here z_at p.1
              | inr after ↦ h.kept z (before.all k z (omega (arith, after, walk.some)) less z_at p)
            ]
          ];
        }

  module _ (limit end : ℕ) (y : SortedEdge) (y_at : slice_get sorted end ≡ Some y) where
    pub chain_init : (last : ℕ) → IsLastShorter cells sorted end (cells_of cells y) last → (found : List SortedEdge) → found ≡ [] → AreWithin (IsEarlierShorter cells limit y) sorted last end found
    chain_init last h found none = record {
      only = λ x there. absurd (let gone = subst (λ (l : List SortedEdge). Contains l x) none there in omega (arith, gone.1));
      all = λ k x from less at p. absurd (h.others k x from less at p.0);
    }

    -- ---- Those that begin with these cells

    pub walk_step : (n : ℕ) (x : SortedEdge) → end + 1 ≤ n → slice_get sorted n ≡ Some x → BeginsWith (cells_of cells x) (cells_of cells y) → (old new : List SortedEdge) → IsAdded x limit old new
        → AreWithin (IsEarlierLonger cells limit y) sorted (end + 1) n old → AreWithin (IsEarlierLonger cells limit y) sorted (end + 1) (n + 1) new
    walk_step n x low x_at begins old new h before = record {
      only = λ z there. elim (h.only z there) [
        | inl was ↦ (let w = before.only z was in (w.0, w.1, (let less : w.0 < n = w.2 in omega (arith, less)), w.3, w.4))
        | inr new ↦ (n, low, omega arith, subst (λ (w : SortedEdge). slice_get sorted n ≡ Some w) new.0 x_at, subst (IsEarlierLonger cells limit y) new.0 (begins, new.1))
      ];
      all = λ k z from less z_at p. elim (cases_eq k n) [
        | inl here ↦ added_at n x limit old new h x_at k z here z_at p.1
        | inr apart ↦ h.kept z (before.all k z from (omega (arith, less, apart)) z_at p)
      ];
    }

    pub walk_init : (found : List SortedEdge) → found ≡ [] → AreWithin (IsEarlierLonger cells limit y) sorted (end + 1) (end + 1) found
    walk_init found none = record {
      only = λ x there. absurd (let gone = subst (λ (l : List SortedEdge). Contains l x) none there in omega (arith, gone.1));
      all = λ k x from less at p. absurd (omega (arith, from, less));
    }

    -- the walk has stopped: no later edge begins with these cells
    pub walk_end : (n : ℕ) → end + 1 ≤ n → n ≤ length sorted → (length sorted ≤ n) ⊎ ((x : SortedEdge) → slice_get sorted n ≡ Some x → BeginsWith (cells_of cells x) (cells_of cells y) → ⊥)
        → (found : List SortedEdge) → AreWithin (IsEarlierLonger cells limit y) sorted (end + 1) n found → AreWithin (IsEarlierLonger cells limit y) sorted (end + 1) (length sorted) found
    walk_end n low within stop found h = record {
      only = λ x there. (let w = h.only x there in (w.0, w.1, (let less : w.0 < n = w.2 in omega (arith, less, within)), w.3, w.4));
      all = λ k x from less at p. elim (cases_lt k n) [
        | inl passed ↦ h.all k x from passed at p
        | inr left ↦ elim stop [
          | inl all ↦ absurd (omega (arith, left, less, all))
          | inr apart ↦ absurd (
              let w = inside sorted n (let within : k < length sorted = less in omega (arith, left, within)) in
              apart w.0 w.1 (between_begins end n k y w.0 x (omega (arith, low)) left y_at w.1 at p.0))
        ]
      ];
    }

    -- ---- All that split with the edge

    pub others_of_both : (shorter longer : List SortedEdge) → AreWithin (IsEarlierShorter cells limit y) sorted 0 end shorter → AreWithin (IsEarlierLonger cells limit y) sorted (end + 1) (length sorted) longer
        → AreOthers cells sorted end limit y (shorter ++ longer)
    others_of_both shorter longer s l = record { only = only; all = all }
      where
        only : (x : SortedEdge) → Contains (shorter ++ longer) x → IsOther cells sorted end limit y x
        only x there = elim (Contains-append_cases shorter longer x there) [
          | inl a ↦ (let w = s.only x a in record { position = w.0; apart = (let less : w.0 < end = w.2 in λ same. omega (arith, less, same)); at = w.3; match = inl w.4.0; before = w.4.1 })
          | inr b ↦ (let w = l.only x b in record { position = w.0; apart = (let more : end + 1 ≤ w.0 = w.1 in λ same. omega (arith, more, same)); at = w.3; match = inr w.4.0; before = w.4.1 })
        ]

        begins_it : (k : ℕ) (x : SortedEdge) → k ≤ end → slice_get sorted k ≡ Some x → DoMatch (cells_of cells y) (cells_of cells x) → BeginsWith (cells_of cells y) (cells_of cells x)
        begins_it k x le at m = elim m [ inl b ↦ b | inr b ↦ begins_back k end x y le at y_at b ]

        begins_with_it : (k : ℕ) (x : SortedEdge) → end ≤ k → slice_get sorted k ≡ Some x → DoMatch (cells_of cells y) (cells_of cells x) → BeginsWith (cells_of cells x) (cells_of cells y)
        begins_with_it k x le at m = elim m [ inr b ↦ b | inl b ↦ begins_back end k y x le y_at at b ]

        all : (x : SortedEdge) → IsOther cells sorted end limit y x → Contains (shorter ++ longer) x
        all x is = elim (three_ways is.position end) [
          | inl before ↦ Contains-append_left shorter longer x (s.all is.position x (omega arith) before is.at (begins_it is.position x (omega (arith, before)) is.at is.match, is.before))
          | inr more ↦ elim more [
            | inl here ↦ absurd (is.apart here)
            | inr after ↦ Contains-append_right shorter longer x (l.all is.position x (omega (arith, after)) (slice_get_within sorted is.position x is.at) is.at (begins_with_it is.position x (omega (arith, after)) is.at is.match, is.before))
          ]
        ]

-- those with an earlier place than the edge, by ascending place
pub earlier_of_others : (cells : List (List ℕ)) (sorted : List SortedEdge) (end : ℕ) (y : SortedEdge) → slice_get sorted end ≡ Some y → (others found : List SortedEdge) → AreOthers cells sorted end y.place y others
    → IsPermutation others found → IsNonDecreasingBy (λ (x : SortedEdge). x.place) found → AreEarlier cells sorted (cells_of cells y) y.place found
earlier_of_others cells sorted end y y_at others found are moved up = record {
  only = λ x there.
      (let is = are.only x (Contains-permutation found others x (IsPermutation-sym others found moved) there) in
      (contained sorted is.position x is.at, is.match, is.before));
  all = λ x there m early.
      (let k = place_of sorted x there in
      Contains-permutation others found x moved (are.all x (record { position = k.0; apart = other x k.0 k.1 early; at = k.1; match = m; before = early })));
  ascending = up;
}
  where
    other : (x : SortedEdge) (k : ℕ) → slice_get sorted k ≡ Some x → x.place < y.place → k ≡ end → ⊥
    other x k at early here =
        let same : x ≡ y = same_place sorted end x y (ap (slice_get sorted) (sym here) ∙ at) y_at in
        let places = ap (λ (z : SortedEdge). z.place) same in
        omega (arith, early, places)

-- ---- Marks

-- the marks that the edges at the first positions give
pub record AreFirstMarks (sorted : List SortedEdge) (shorter : List ℕ) (marks : List Bool) (end : ℕ) : Type 0 where
  pub own : (k n : ℕ) (x : SortedEdge) → k < end → slice_get shorter k ≡ Some n → 0 < n → slice_get sorted k ≡ Some x → slice_get marks x.place ≡ Some true
  pub last : (k n j : ℕ) (x : SortedEdge) → k < end → slice_get shorter k ≡ Some n → n ≡ j + 1 → slice_get sorted j ≡ Some x → slice_get marks x.place ≡ Some true

-- what is marked stays marked
mark_stays : (marks : List Bool) (i p : ℕ) → slice_get marks p ≡ Some true → slice_get (set marks i true) p ≡ Some true
mark_stays marks i p at =
    let within = slice_get_within marks p true at in
    let y = inside (set marks i true) p (omega (arith, length-set marks i true, within)) in
    elim (set_cases marks i true p y.0 y.1) [
      | inl here ↦ y.1 ∙ ap (λ (b : Bool). Some b) (sym here.1)
      | inr there ↦ y.1 ∙ sym there.1 ∙ at
    ]

mark_made : (marks : List Bool) (i : ℕ) → i < length marks → slice_get (set marks i true) i ≡ Some true
mark_made marks i within = slice_get-get_or (set marks i true) i true (omega (arith, length-set marks i true, within)) ∙ ap (λ (b : Bool). Some b) (get_or-set_same marks i true true within)

module _ (sorted : List SortedEdge) (shorter : List ℕ) (position n : ℕ) (n_at : slice_get shorter position ≡ Some n) where
  -- the edge at this position has none before it
  pub marks_as_before : (marks : List Bool) → n ≡ 0 → AreFirstMarks sorted shorter marks position → AreFirstMarks sorted shorter marks (position + 1)
  marks_as_before marks none h = record {
    own = λ k m x less m_at some x_at. elim (cases_eq k position) [
      | inl here ↦ absurd (let same : m ≡ n = same_place shorter position m n (ap (slice_get shorter) (sym here) ∙ m_at) n_at in omega (arith, same, none, some))
      | inr other ↦ h.own k m x (omega (arith, less, other)) m_at some x_at
    ];
    last = λ k m j x less m_at is x_at. elim (cases_eq k position) [
      | inl here ↦ absurd (let same : m ≡ n = same_place shorter position m n (ap (slice_get shorter) (sym here) ∙ m_at) n_at in omega (arith, same, none, is))
      | inr other ↦ h.last k m j x (omega (arith, less, other)) m_at is x_at
    ];
  }

  -- the edge at this position and the last one before it are marked
  pub marks_more : (marks : List Bool) (x y : SortedEdge) → slice_get sorted position ≡ Some x → slice_get sorted (n - 1) ≡ Some y → 0 < n → x.place < length marks → y.place < length marks
      → AreFirstMarks sorted shorter marks position → AreFirstMarks sorted shorter (set (set marks x.place true) y.place true) (position + 1)
  marks_more marks x y x_at y_at some x_within y_within h = record {
    own = λ k m z less m_at is_some z_at. elim (cases_eq k position) [
      | inl here ↦
          let same : x ≡ z = same_place sorted position x z x_at (ap (slice_get sorted) (sym here) ∙ z_at) in
          subst (λ (w : SortedEdge). slice_get new w.place ≡ Some true) same (mark_stays (set marks x.place true) y.place x.place (mark_made marks x.place x_within))
      | inr other ↦ stays z.place (h.own k m z (omega (arith, less, other)) m_at is_some z_at)
    ];
    last = λ k m j z less m_at is z_at. elim (cases_eq k position) [
      | inl here ↦
          let number : m ≡ n = same_place shorter position m n (ap (slice_get shorter) (sym here) ∙ m_at) n_at in
          let at : n - 1 ≡ j = omega (arith, number, is) in
          let same : y ≡ z = same_place sorted (n - 1) y z y_at (ap (slice_get sorted) at ∙ z_at) in
          subst (λ (w : SortedEdge). slice_get new w.place ≡ Some true) same (mark_made (set marks x.place true) y.place (omega (arith, length-set marks x.place true, y_within)))
      | inr other ↦ stays z.place (h.last k m j z (omega (arith, less, other)) m_at is z_at)
    ];
  }
    where
      new : List Bool
      new = set (set marks x.place true) y.place true

      stays : (p : ℕ) → slice_get marks p ≡ Some true → slice_get new p ≡ Some true
      stays p at = mark_stays (set marks x.place true) y.place p (mark_stays marks x.place p at)

-- an edge without a mark splits with no other one
module _ (cells : List (List ℕ)) (sorted : List SortedEdge) (ascending : AreAscending cells sorted) (shorter : List ℕ) (marks : List Bool) (many : length shorter ≡ length sorted)
    (known : AreShorter cells sorted shorter) (are : AreMarks sorted shorter marks) where
  -- where a later edge begins with its cells, an edge is marked
  marked_by_later : (fuel i j : ℕ) (x y : SortedEdge) → j ≤ i + fuel → i < j → slice_get sorted i ≡ Some x → slice_get sorted j ≡ Some y → BeginsWith (cells_of cells y) (cells_of cells x) → slice_get marks x.place ≡ Some true
  marked_by_later zero i j x y near less x_at y_at b = absurd (omega (arith, near, less))
  marked_by_later (suc fuel) i j x y near less x_at y_at b =
      let n = inside shorter j (let within = slice_get_within sorted j y y_at in omega (arith, within, many)) in
      let found = known j n.0 y y_at n.1 in
      elim (cases_lt i n.0) [
        | inr high ↦ absurd (found.others i x high less x_at b)
        | inl low ↦ elim (cases_eq (n.0 - 1) i) [
          | inl here ↦ are.last j n.0 i x n.1 (omega (arith, low, here)) x_at
          | inr other ↦
              let le : n.0 ≤ j = found.before in
              let z = inside sorted (n.0 - 1) (let within = slice_get_within sorted j y y_at in omega (arith, within, le, low)) in
              marked_by_later fuel i (n.0 - 1) x z.0 (omega (arith, near, le)) (omega (arith, low, other)) x_at z.1
              (between_begins cells sorted ascending i (n.0 - 1) j x z.0 y (omega (arith, low)) (omega (arith, le)) x_at z.1 y_at b)
        ]
      ]

  pub unmarked_alone : (own : ℕ) (y : SortedEdge) → slice_get sorted own ≡ Some y → slice_get marks y.place ≡ Some false → (k : ℕ) (x : SortedEdge) → slice_get sorted k ≡ Some x
      → DoMatch (cells_of cells y) (cells_of cells x) → x.place < y.place → ⊥
  unmarked_alone own y y_at unmarked k x here_at m early = elim (three_ways k own) [
    | inl before ↦
        let b : BeginsWith (cells_of cells y) (cells_of cells x) = (elim m [ inl begins ↦ begins | inr back ↦ begins_back cells sorted ascending k own x y (omega (arith, before)) here_at y_at back ]) in
        let n = inside shorter own (let within = slice_get_within sorted own y y_at in omega (arith, within, many)) in
        let found = known own n.0 y y_at n.1 in
        elim (cases_lt 0 n.0) [
          | inl some ↦ not_marked (are.own own n.0 y n.1 some y_at)
          | inr none ↦ found.others k x (omega (arith, none)) before here_at b
        ]
    | inr more ↦ elim more [
      | inl here ↦ (let same = ap (λ (z : SortedEdge). z.place) (same_place sorted own x y (ap (slice_get sorted) (sym here) ∙ here_at) y_at) in omega (arith, same, early))
      | inr after ↦
          let b : BeginsWith (cells_of cells x) (cells_of cells y) = (elim m [ inr begins ↦ begins | inl back ↦ begins_back cells sorted ascending own k y x (omega (arith, after)) y_at here_at back ]) in
          not_marked (marked_by_later k own k y x (omega arith) after y_at here_at b)
    ]
  ]
    where
      not_marked : slice_get marks y.place ≡ Some true → ⊥
      not_marked at = (let same = sym at ∙ unmarked in cc)
