-- The least rule of the edges that have a property, where edges with it match a lead: the rule of
-- the first one of those that match.
use Rattle.std.proofs.Common.{◌≡◌, ◌↔◌, ℕ, ◌+◌, ◌<◌, ◌≤◌, Bool, false, IsTrue, true≢false, List, inl, inr, length, Some, slice_get, refl, sym, ◌∙◌, ap, subst, arith}
use Rattle.std.proofs.lemmas.Bool.{cases_eq, cases_lt}
use Rattle.std.proofs.lemmas.Option.{get_or_from_slice_get, slice_get_within}
use Rattle.brl_closure.specs.Least.{IsLeast}
use Rattle.brl_closure.specs.Sorted.{AreFound}
use Rattle.brl_closure.specs.Steps.{HasBefore, HasOfRule, MissUnexcused}
use Rattle.brl_pairs.specs.Body.{NumberPair}
use Rattle.brl_pairs.specs.Edges.{AreInOrder}
use Rattle.brl_pairs.specs.NumberPairs.{IsMissing}
use Rattle.std.specs.Prelude.{Contains}
use Rattle.brl_pairs.specs.Sorted.{AreMatches, DoMatch, IsSortedOf, cells_of, or_none}
use Rattle.brl_pairs.specs.Splits.{AreEarlier}
use Rattle.brl_pairs.specs.declared.edge.Edge.{Edge}
use Rattle.brl_pairs.specs.declared.excused.Excused.{Excused}
use Rattle.brl_pairs.specs.declared.sorted.SortedEdge.{SortedEdge}
use Rattle.brl_pairs.proofs.Lists.{same_place}
use Rattle.brl_pairs.proofs.Numbered.{contained, place_of}
use Rattle.brl_pairs.proofs.SortedLaws.{edge_at, is_at}
use Rattle.brl_pairs.proofs.Unmatched.{match_back}

-- a test that failed
pub refuted : {P : Type 0} (test : Bool) → IsTrue test ↔ P → test ≡ false → P → ⊥
refuted test tells failed holds = true≢false (sym (tells.1 holds) ∙ failed)

-- an edge that leads to a missing pair matches the lead
pub missing_matches : (pairs : List NumberPair) (ahead : ℕ) (lead : List ℕ) (e : Edge) → IsMissing pairs ahead lead e → DoMatch lead e.cells
missing_matches pairs ahead lead e (inl gap) = inl (gap.rest, gap.longer)
missing_matches pairs ahead lead e (inr gap) = inr (gap.rest, gap.shorter)

-- an edge that splits with a later one into a missing pair matches its cells
pub split_matches : (excused : Excused) (pairs : List NumberPair) (later earlier : Edge) → MissUnexcused excused pairs earlier later → DoMatch later.cells earlier.cells
split_matches excused pairs later earlier h = match_back earlier.cells later.cells (missing_matches pairs earlier.next earlier.cells later h.0)

-- a sorted edge with this place has the cells of the edge there
same_cells_at : (cells : List (List ℕ)) (edges : List Edge) (sorted : List SortedEdge) → IsSortedOf cells edges sorted → (y : SortedEdge) → Contains sorted y → (place : ℕ) (e : Edge) → y.place ≡ place → slice_get edges place ≡ Some e → cells_of cells y ≡ e.cells
same_cells_at cells edges sorted h y there place e is at =
    let own = h.by_numbers.only y there in
    ap or_none own.same_cells ∙ ap (λ (z : Edge). z.cells) (same_place edges place own.edge e (ap (slice_get edges) (sym is) ∙ own.at) at)

numbered_at : (cells : List (List ℕ)) (edges : List Edge) (sorted : List SortedEdge) → IsSortedOf cells edges sorted → (place : ℕ) (e : Edge) → slice_get edges place ≡ Some e → (x : SortedEdge) × Contains sorted x × (x.place ≡ place) × (cells_of cells x ≡ e.cells)
numbered_at cells edges sorted h place e at = (let x = h.by_numbers.all place e at in (x.0, x.1, x.2, same_cells_at cells edges sorted h x.0 x.1 place e x.2 at))

-- what is looked up among the sorted edges
pub found_of_sorted : (cells : List (List ℕ)) (edges : List Edge) (sorted : List SortedEdge) → IsSortedOf cells edges sorted → (lead : List ℕ) (found : List SortedEdge) → AreMatches cells sorted lead found → AreFound edges lead (length edges) found
found_of_sorted cells edges sorted h lead found those = record {
  only = λ k x at. (
      let is = those.those.only x (contained found k x at) in
      let own = h.by_numbers.only x is.0 in
      (own.edge, own.at, subst (DoMatch lead) (ap or_none own.same_cells) is.1, slice_get_within edges x.place own.edge own.at));
  all = λ place e within at m. (
      let x = numbered_at cells edges sorted h place e at in
      let k = place_of found x.0 (those.those.all x.0 x.1 (subst (DoMatch lead) (sym x.3) m)) in
      (k.0, x.0, k.1, x.2));
  ascending = those.ascending;
}

-- what is looked up among the edges before a place
pub found_of_earlier : (cells : List (List ℕ)) (edges : List Edge) (sorted : List SortedEdge) → IsSortedOf cells edges sorted → (place : ℕ) (e : Edge) → slice_get edges place ≡ Some e
    → (y : SortedEdge) → Contains sorted y → y.place ≡ place → (found : List SortedEdge) → AreEarlier cells sorted (cells_of cells y) place found → AreFound edges e.cells place found
found_of_earlier cells edges sorted h place e at y there is found those = record {
  only = λ k x x_at. (
      let w = those.only x (contained found k x x_at) in
      let own = h.by_numbers.only x w.0 in
      (own.edge, own.at, subst (λ (lead : List ℕ). DoMatch lead own.edge.cells) lead_is (subst (DoMatch (cells_of cells y)) (ap or_none own.same_cells) w.1), w.2));
  all = λ other f before f_at m. (
      let x = numbered_at cells edges sorted h other f f_at in
      let k = place_of found x.0 (those.all x.0 x.1 (subst (λ (lead : List ℕ). DoMatch lead (cells_of cells x.0)) (sym lead_is) (subst (DoMatch e.cells) (sym x.3) m)) (omega (arith, before, x.2))) in
      (k.0, x.0, k.1, x.2));
  ascending = those.ascending;
}
  where
    lead_is : cells_of cells y ≡ e.cells
    lead_is = same_cells_at cells edges sorted h y there place e is at

-- the place of the match with this number is within
pub named_within : (edges : List Edge) (lead : List ℕ) (end : ℕ) (found : List SortedEdge) → AreFound edges lead end found → (n : ℕ) → n < length found → (edge_at found n).place < length edges
named_within edges lead end found h n less =
    let e = h.only n (edge_at found n) (is_at found n less) in
    slice_get_within edges (edge_at found n).place e.0 e.1

-- none of the edges that were found before this one has the property
abbrev pub NoneAmong : (Edge → Type 0) → List Edge → List SortedEdge → ℕ → Type 0
NoneAmong Has edges found n = (k : ℕ) (x : SortedEdge) (e : Edge) → k < n → slice_get found k ≡ Some x → slice_get edges x.place ≡ Some e → Has e → ⊥

module _ (Has : Edge → Type 0) (edges : List Edge) (lead : List ℕ) (end : ℕ) (found : List SortedEdge) (h : AreFound edges lead end found) (match : (e : Edge) → Has e → DoMatch lead e.cells) where
  one_more_without : (n : ℕ) (x : SortedEdge) (e : Edge) → NoneAmong Has edges found n → slice_get found n ≡ Some x → slice_get edges x.place ≡ Some e → (Has e → ⊥) → NoneAmong Has edges found (n + 1)
  one_more_without n x e none x_at e_at without k y f less y_at f_at =
      elim (cases_eq k n) [
        | inl here ↦ (
            let same : x ≡ y = same_place found n x y x_at (ap (slice_get found) (sym here) ∙ y_at) in
            let edge : e ≡ f = same_place edges y.place e f (ap (λ (z : SortedEdge). slice_get edges z.place) (sym same) ∙ e_at) f_at in
            λ has. without (subst Has (sym edge) has))
        | inr apart ↦ none k y f (omega (arith, less, apart)) y_at f_at
      ]

  ascend : (i j : ℕ) (x y : SortedEdge) → i ≤ j → slice_get found i ≡ Some x → slice_get found j ≡ Some y → x.place ≤ y.place
  ascend i j x y le x_at y_at =
      let up = h.ascending i j x le (slice_get_within found j y y_at) in
      let first = ap (λ (z : SortedEdge). z.place) (get_or_from_slice_get found i x x x_at) in
      let second = ap (λ (z : SortedEdge). z.place) (get_or_from_slice_get found j y x y_at) in
      omega (arith, up, first, second)

  -- an edge with the property is not before the first that was found with it
  not_before : (n : ℕ) (x : SortedEdge) → slice_get found n ≡ Some x → NoneAmong Has edges found n → (place : ℕ) (f : Edge) → place < end → slice_get edges place ≡ Some f → Has f → x.place ≤ place
  not_before n x x_at none place f before f_at has =
      let y = h.all place f before f_at (match f has) in
      elim (cases_lt y.0 n) [
        | inl less ↦ absurd (none y.0 y.1 f less y.2 (ap (slice_get edges) y.3 ∙ f_at) has)
        | inr more ↦ (let le = ascend n y.0 x y.1 more x_at y.2 in omega (arith, le, y.3))
      ]

  least_rule : AreInOrder edges → (n : ℕ) (x : SortedEdge) (e : Edge) → slice_get found n ≡ Some x → slice_get edges x.place ≡ Some e → NoneAmong Has edges found n → (place : ℕ) (f : Edge) → place < end → slice_get edges place ≡ Some f → Has f → e.rule ≤ f.rule
  least_rule in_order n x e x_at e_at none place f before f_at has =
      let le = not_before n x x_at none place f before f_at has in
      elim (cases_eq x.place place) [
        | inl same ↦ (let rules : e.rule ≡ f.rule = ap (λ (z : Edge). z.rule) (same_place edges place e f (ap (slice_get edges) (sym same) ∙ e_at) f_at) in omega (arith, rules))
        | inr apart ↦ in_order x.place place e f (omega (arith, le, apart)) e_at f_at
      ]

  least_before : AreInOrder edges → (n : ℕ) (x : SortedEdge) (e : Edge) → slice_get found n ≡ Some x → slice_get edges x.place ≡ Some e → NoneAmong Has edges found n → Has e → IsLeast (HasBefore Has edges end) e.rule
  least_before in_order n x e x_at e_at none has = record {
    has = record { found = record { place = x.place; edge = e; at = e_at; has_rule = refl; has = has }; before = (h.only n x x_at).3 };
    below_all = λ rule f. subst (λ (r : ℕ). e.rule ≤ r) f.found.has_rule (least_rule in_order n x e x_at e_at none f.found.place f.found.edge f.before f.found.at f.found.has);
  }

  pub none_before : (n : ℕ) → length found ≤ n → NoneAmong Has edges found n → (rule : ℕ) → HasBefore Has edges end rule → ⊥
  none_before n all none rule f =
      let y = h.all f.found.place f.found.edge f.before f.found.at (match f.found.edge f.found.has) in
      let within : y.0 < length found = slice_get_within found y.0 y.1 y.2 in
      none y.0 y.1 f.found.edge (omega (arith, within, all)) y.2 (ap (slice_get edges) y.3 ∙ f.found.at) f.found.has

  -- the match with this number is read, and the edge that it names
  module _ (n : ℕ) (less : n < length found) (e : Edge) (named : slice_get edges (edge_at found n).place ≡ Some e) (none : NoneAmong Has edges found n) where
    pub read_without : (Has e → ⊥) → NoneAmong Has edges found (n + 1)
    read_without without = one_more_without n (edge_at found n) e none (is_at found n less) named without

    pub read_least : AreInOrder edges → Has e → IsLeast (HasBefore Has edges end) e.rule
    read_least in_order has = least_before in_order n (edge_at found n) e (is_at found n less) named none has

-- ---- Of all edges

module _ (Has : Edge → Type 0) (edges : List Edge) where
  all_before : (rule : ℕ) → HasOfRule Has edges rule → HasBefore Has edges (length edges) rule
  all_before rule f = record { found = f; before = slice_get_within edges f.place f.edge f.at }

  pub least_of_all : (least : ℕ) → IsLeast (HasBefore Has edges (length edges)) least → IsLeast (HasOfRule Has edges) least
  least_of_all least h = record { has = h.has.found; below_all = λ rule f. h.below_all rule (all_before rule f) }

  pub none_of_all : ((rule : ℕ) → HasBefore Has edges (length edges) rule → ⊥) → (rule : ℕ) → HasOfRule Has edges rule → ⊥
  none_of_all none rule f = none rule (all_before rule f)
