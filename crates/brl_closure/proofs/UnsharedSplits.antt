-- The least rules of two edges that split into a missing pair, of those that aren't both shared.
use Rattle.std.proofs.Common.{◌≡◌, ◌≢◌, ℕ, ◌+◌, ◌<◌, Bool, true, false, List, ◌⊎◌, inl, inr, length, Option, Some, slice_get, refl, sym, ◌∙◌, ap, subst, arith}
use Rattle.std.specs.Prelude.{◌↔◌}
use Rattle.std.proofs.lemmas.Option.{slice_get_within}
use Rattle.std.proofs.lemmas.Bool.{cases_eq}
use Rattle.brl_pairs.specs.Body.{NumberPair}
use Rattle.brl_pairs.specs.Sorted.{IsSortedOf}
use Rattle.brl_pairs.specs.declared.edge.Edge.{Edge}
use Rattle.brl_pairs.specs.declared.excused.Excused.{Excused}
use Rattle.brl_pairs.specs.declared.sorted.SortedEdge.{SortedEdge}
use Rattle.brl_pairs.proofs.Lists.{inside, same_place}
use Rattle.brl_pairs.proofs.Numbered.{place_of}
use Rattle.brl_pairs.proofs.SortedLaws.{edge_at, is_at}
use Rattle.brl_closure.specs.Least.{IsLeastPair, IsLeastPairFound, lesser_of}
use Rattle.brl_closure.specs.Passed.{AreListedIfShared, HasCellsAndNext, HasOfUnshared}
use Rattle.brl_closure.specs.Sorted.{AreFound, SortedView}
use Rattle.brl_closure.specs.Steps.{HasOfPlace, HasOfPlaces, HasOfRules, MissUnexcused}
use Rattle.brl_closure.proofs.LeastLaws.{least_of_both, same_least_pair}
use Rattle.brl_closure.proofs.LeastRule.{split_matches}
use Rattle.brl_closure.proofs.MissingLaws.{unexcused_other_order}

-- ---- One number after the other

module _ (P : ℕ → ℕ → ℕ → Type 0) where
  -- with one of the numbers below n two numbers have the property
  pub record Below (n first second : ℕ) : Type 0 where
    pub number : ℕ
    pub before : number < n
    pub has : P number first second

  pub none_below : (first second : ℕ) → Below 0 first second → ⊥
  none_below first second h = (let before : h.number < 0 = h.before in absurd (omega (arith, before)))

  one_more : (n first second : ℕ) → (Below n first second ⊎ P n first second) ↔ Below (n + 1) first second
  one_more n first second = (to, from)
    where
      to : Below n first second ⊎ P n first second → Below (n + 1) first second
      to (inl h) = record { number = h.number; before = (let before : h.number < n = h.before in omega (arith, before)); has = h.has }
      to (inr has) = record { number = n; before = omega arith; has = has }

      from : Below (n + 1) first second → Below n first second ⊎ P n first second
      from h = elim (cases_eq h.number n) [
        | inl here ↦ inr (subst (λ (k : ℕ). P k first second) here h.has)
        | inr apart ↦ inl (record { number = h.number; before = (let before : h.number < n + 1 = h.before in omega (arith, before, apart)); has = h.has })
      ]

  pub least_below : (n : ℕ) (best found r : Option (ℕ × ℕ)) → IsLeastPairFound (Below n) best → IsLeastPairFound (P n) found → r ≡ lesser_of best found → IsLeastPairFound (Below (n + 1)) r
  least_below n best found r before here is =
      subst (IsLeastPairFound (Below (n + 1))) (sym is) (same_least_pair _ (Below (n + 1)) (one_more n) (lesser_of best found) (least_of_both (Below n) (P n) best found before here))

-- ---- The edges at two places

module _ (Has : Edge → Edge → Type 0) (edges : List Edge) where
  swapped_places : (i j first second : ℕ) → HasOfPlaces Has edges i j first second → HasOfPlaces Has edges j i first second
  swapped_places i j first second h = record { both = h.both; places = elim h.places [ inl at ↦ inr at | inr at ↦ inl at ] }

  pub least_swapped : (i j : ℕ) (found : Option (ℕ × ℕ)) → IsLeastPairFound (HasOfPlaces Has edges i j) found → IsLeastPairFound (HasOfPlaces Has edges j i) found
  least_swapped i j found least = same_least_pair (HasOfPlaces Has edges i j) (HasOfPlaces Has edges j i) (λ first second. (swapped_places i j first second, swapped_places j i first second)) found least

  -- two edges have just their rules
  pub least_of_two : (i j : ℕ) (x y : Edge) → i < j → slice_get edges i ≡ Some x → slice_get edges j ≡ Some y → Has x y → IsLeastPair (HasOfPlaces Has edges i j) (x.rule, y.rule)
  least_of_two i j x y less x_at y_at has = record {
    has = record {
      both = record { i = i; j = j; earlier = x; later = y; in_order = less; earlier_at = x_at; later_at = y_at; has_first = refl; has_second = refl; has = has };
      places = inl (refl, refl);
    };
    before_all = λ first second h. (
        let f = h.both in
        let before : f.i < f.j = f.in_order in
        elim h.places [
          | inr at ↦ absurd (omega (arith, less, before, at.0, at.1))
          | inl at ↦ (
              let one : f.earlier ≡ x = same_place edges i f.earlier x (ap (slice_get edges) (sym at.0) ∙ f.earlier_at) x_at in
              let two : f.later ≡ y = same_place edges j f.later y (ap (slice_get edges) (sym at.1) ∙ f.later_at) y_at in
              let same : y.rule ≡ second = sym (ap (λ (z : Edge). z.rule) two) ∙ f.has_second in
              inr (sym (ap (λ (z : Edge). z.rule) one) ∙ f.has_first, omega (arith, same)))
        ]);
  }

module _ (excused : Excused) (pairs : List NumberPair) where
  abbrev Missing : Edge → Edge → Type 0
  Missing = MissUnexcused excused pairs

  pub none_of_two : (edges : List Edge) (i j : ℕ) (x y : Edge) → slice_get edges i ≡ Some x → slice_get edges j ≡ Some y → (Missing y x → ⊥) → (first second : ℕ) → HasOfPlaces Missing edges i j first second → ⊥
  none_of_two edges i j x y x_at y_at none first second h =
      let f = h.both in
      elim h.places [
        | inl at ↦ (
            let one : f.earlier ≡ x = same_place edges i f.earlier x (ap (slice_get edges) (sym at.0) ∙ f.earlier_at) x_at in
            let two : f.later ≡ y = same_place edges j f.later y (ap (slice_get edges) (sym at.1) ∙ f.later_at) y_at in
            none (unexcused_other_order excused pairs x y (subst (λ (z : Edge). Missing z y) one (subst (Missing f.earlier) two f.has))))
        | inr at ↦ (
            let one : f.earlier ≡ y = same_place edges j f.earlier y (ap (slice_get edges) (sym at.0) ∙ f.earlier_at) y_at in
            let two : f.later ≡ x = same_place edges i f.later x (ap (slice_get edges) (sym at.1) ∙ f.later_at) x_at in
            none (subst (λ (z : Edge). Missing z x) one (subst (Missing f.earlier) two f.has)))
      ]

  -- ---- The edge at one place

  module _ (edges : List Edge) (place : ℕ) (found : List SortedEdge) where
    -- two edges of these rules split into a missing pair: that at the place, and the match with
    -- this number
    pub record HasOfMatch (n first second : ℕ) : Type 0 where
      pub match : SortedEdge
      pub at : slice_get found n ≡ Some match
      pub has : HasOfPlaces Missing edges place match.place first second

    pub least_of_match : (n : ℕ) → n < length found → (option : Option (ℕ × ℕ)) → IsLeastPairFound (HasOfPlaces Missing edges place (edge_at found n).place) option → IsLeastPairFound (HasOfMatch n) option
    least_of_match n less option least =
        same_least_pair (HasOfPlaces Missing edges place (edge_at found n).place) (HasOfMatch n) (λ first second. (
          (λ h. record { match = edge_at found n; at = is_at found n less; has = h }),
          λ h. subst (λ (x : SortedEdge). HasOfPlaces Missing edges place x.place first second) (same_place found n h.match (edge_at found n) h.at (is_at found n less)) h.has,
        )) option least

  module _ (edges : List Edge) (place : ℕ) (e : Edge) (e_at : slice_get edges place ≡ Some e) (found : List SortedEdge) (those : AreFound edges e.cells (length edges) found) where
    of_match : (first second : ℕ) → Below (HasOfMatch edges place found) (length found) first second → HasOfPlace Missing edges place first second
    of_match first second h = (let has = h.has.has in record { both = has.both; one = elim has.places [ inl at ↦ inl at.0 | inr at ↦ inr at.1 ] })

    by_match : (first second other : ℕ) (f : Edge) → slice_get edges other ≡ Some f → Missing f e → (both : HasOfRules Missing edges first second) → ((both.i ≡ place) × (both.j ≡ other)) ⊎ ((both.i ≡ other) × (both.j ≡ place)) → Below (HasOfMatch edges place found) (length found) first second
    by_match first second other f f_at missing both places =
        let x = those.all other f (slice_get_within edges other f f_at) f_at (split_matches excused pairs e f missing) in
        record {
          number = x.0;
          before = slice_get_within found x.0 x.1 x.2;
          has = record {
            match = x.1;
            at = x.2;
            has = record {
              both = both;
              places = elim places [ inl at ↦ inl (at.0, at.1 ∙ sym x.3) | inr at ↦ inr (at.0 ∙ sym x.3, at.1) ];
            };
          };
        }

    to_match : (first second : ℕ) → HasOfPlace Missing edges place first second → Below (HasOfMatch edges place found) (length found) first second
    to_match first second h =
        let f = h.both in
        elim h.one [
          | inl at ↦ (
              let same : f.earlier ≡ e = same_place edges place f.earlier e (ap (slice_get edges) (sym at) ∙ f.earlier_at) e_at in
              by_match first second f.j f.later f.later_at (unexcused_other_order excused pairs e f.later (subst (λ (z : Edge). Missing z f.later) same f.has)) f (inl (at, refl)))
          | inr at ↦ (
              let same : f.later ≡ e = same_place edges place f.later e (ap (slice_get edges) (sym at) ∙ f.later_at) e_at in
              by_match first second f.i f.earlier f.earlier_at (subst (Missing f.earlier) same f.has) f (inr (refl, at)))
        ]

    pub least_at_place : (n : ℕ) → n ≡ length found → (option : Option (ℕ × ℕ)) → IsLeastPairFound (Below (HasOfMatch edges place found) n) option → IsLeastPairFound (HasOfPlace Missing edges place) option
    least_at_place n all option least =
        same_least_pair (Below (HasOfMatch edges place found) (length found)) (HasOfPlace Missing edges place) (λ first second. (of_match first second, to_match first second)) option
        (subst (λ (m : ℕ). IsLeastPairFound (Below (HasOfMatch edges place found) m) option) all least)

-- ---- The edges that aren't shared

module _ (Has : Edge → Edge → Type 0) (edges : SortedView) (shared : List Bool) (position : ℕ) where
  pub least_if_unshared : slice_get shared position ≡ Some false → (x : SortedEdge) → slice_get edges.sorted position ≡ Some x → (option : Option (ℕ × ℕ)) → IsLeastPairFound (HasOfPlace Has edges.edges x.place) option
      → IsLeastPairFound (HasOfUnshared Has edges shared position) option
  least_if_unshared unshared x at option least =
      same_least_pair (HasOfPlace Has edges.edges x.place) (HasOfUnshared Has edges shared position) (λ first second. (
        (λ h. record { sorted = x; at = at; unshared = unshared; has = h }),
        λ h. subst (λ (z : SortedEdge). HasOfPlace Has edges.edges z.place first second) (same_place edges.sorted position h.sorted x h.at at) h.has,
      )) option least

module _ (excused : Excused) (pairs : List NumberPair) (edges : SortedView) (h : IsSortedOf edges.cells edges.edges edges.sorted) (shared : List Bool) (many : length shared ≡ length edges.sorted) (listed : AreListedIfShared pairs edges shared) where
  -- a sorted edge, at its position, with the edge at its place
  record IsSortedAt (place : ℕ) (e : Edge) : Type 0 where
    position : ℕ
    sorted : SortedEdge
    at : slice_get edges.sorted position ≡ Some sorted
    has_place : sorted.place ≡ place
    is : HasCellsAndNext edges.cells sorted e

  sorted_at : (place : ℕ) (e : Edge) → slice_get edges.edges place ≡ Some e → IsSortedAt place e
  sorted_at place e at =
      let x = h.by_numbers.all place e at in
      let own = h.by_numbers.only x.0 x.1 in
      let k = place_of edges.sorted x.0 x.1 in
      let same : own.edge ≡ e = same_place edges.edges place own.edge e (ap (slice_get edges.edges) (sym x.2) ∙ own.at) at in
      record {
        position = k.0;
        sorted = x.0;
        at = k.1;
        has_place = x.2;
        is = record { own_cells = own.same_cells ∙ ap (λ (z : Edge). Some z.cells) same; next = own.same_next ∙ ap (λ (z : Edge). z.next) same };
      }

  abbrev Unshared : ℕ → ℕ → ℕ → Type 0
  Unshared = HasOfUnshared (MissUnexcused excused pairs) edges shared

  module _ (first second : ℕ) (f : HasOfRules (MissUnexcused excused pairs) edges.edges first second) where
    by_position : (place : ℕ) (e : Edge) (a : IsSortedAt place e) → slice_get shared a.position ≡ Some false → (f.i ≡ place) ⊎ (f.j ≡ place) → Below Unshared (length shared) first second
    by_position place e a unshared one = record {
      number = a.position;
      before = slice_get_within shared a.position false unshared;
      has = record { sorted = a.sorted; at = a.at; unshared = unshared; has = record { both = f; one = elim one [ inl at ↦ inl (at ∙ sym a.has_place) | inr at ↦ inr (at ∙ sym a.has_place) ] } };
    }

    module _ (a : IsSortedAt f.i f.earlier) (b : IsSortedAt f.j f.later) where
      positions_differ : a.position ≢ b.position
      positions_differ same =
          let less : f.i < f.j = f.in_order in
          let one_edge : a.sorted ≡ b.sorted = same_place edges.sorted b.position a.sorted b.sorted (ap (slice_get edges.sorted) (sym same) ∙ a.at) b.at in
          let places = ap (λ (z : SortedEdge). z.place) one_edge in
          let first_place : a.sorted.place ≡ f.i = a.has_place in
          let second_place : b.sorted.place ≡ f.j = b.has_place in
          omega (arith, less, places, first_place, second_place)

      by_marks : (s t : Bool) → slice_get shared a.position ≡ Some s → slice_get shared b.position ≡ Some t → Below Unshared (length shared) first second
      by_marks true true s_at t_at = absurd (listed a.position b.position a.sorted b.sorted f.earlier f.later positions_differ s_at t_at a.at b.at a.is b.is f.has.0)
      by_marks false t s_at t_at = by_position f.i f.earlier a s_at (inl refl)
      by_marks true false s_at t_at = by_position f.j f.later b t_at (inr refl)

    to_unshared : Below Unshared (length shared) first second
    to_unshared =
        let a = sorted_at f.i f.earlier f.earlier_at in
        let b = sorted_at f.j f.later f.later_at in
        let s = inside shared a.position (let within = slice_get_within edges.sorted a.position a.sorted a.at in omega (arith, within, many)) in
        let t = inside shared b.position (let within = slice_get_within edges.sorted b.position b.sorted b.at in omega (arith, within, many)) in
        by_marks a b s.0 t.0 s.1 t.1

  -- all positions were tried
  pub least_unshared : (n : ℕ) → n ≡ length shared → (best : Option (ℕ × ℕ)) → IsLeastPairFound (Below Unshared n) best → IsLeastPairFound (HasOfRules (MissUnexcused excused pairs) edges.edges) best
  least_unshared n all best least =
      same_least_pair (Below Unshared (length shared)) (HasOfRules (MissUnexcused excused pairs) edges.edges) (λ first second. ((λ f. f.has.has.both), to_unshared first second)) best
      (subst (λ (m : ℕ). IsLeastPairFound (Below Unshared m) best) all least)
