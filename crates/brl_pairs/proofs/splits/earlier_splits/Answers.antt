use Rattle.std.proofs.Common.{◌≡◌, ◌<◌, ℕ, List, length, get_or, Some, slice_get, refl, sym, ◌∙◌, ap, subst, arith, rules, Bool, false, Contains}
use Rattle.std.proofs.lemmas.List.Sorted.{IsNonDecreasingBy-from_sort_by_key, IsNonDecreasingBy-short}
use Rattle.std.proofs.lemmas.Option.{slice_get_read, slice_get_within}
use Rattle.brl_pairs.specs.Sorted.{cells_of}
use Rattle.brl_pairs.specs.Splits.{AreEarlier, AreOthers, ArePositions}
use Rattle.brl_pairs.specs.declared.sorted.SortedEdge.{SortedEdge}
use Rattle.brl_pairs.proofs.Lists.{same_place}
use Rattle.brl_pairs.proofs.Numbered.{contained, place_of}
use Rattle.brl_pairs.proofs.SortedLaws.{edge_at, is_at}
use Rattle.brl_pairs.proofs.SplitsLaws.{earlier_of_others, unmarked_alone}
use Rattle.brl_pairs.proofs.splits.earlier_splits.Goals as goal

pub index-requires : goal.index-requires
index-requires c =
    let x = c.requires.there in
    let within : x.0.place < length c.args.splits.now.marks.items = c.requires.splits.mark_count x.0 x.1 in
    omega (arith, within, x.2, c.args.splits.now.marks.ok.0)

-- an edge without a mark splits with none
pub returns-then-not-index : goal.returns-then-not-index
returns-then-not-index c =
    let a = c.args in
    let marks = a.splits.now.marks.items in
    let y = c.requires.there in
    let own = place_of a.sorted.now y.0 y.1 in
    let within : y.0.place < length marks = c.requires.splits.mark_count y.0 y.1 in
    let unmarked : slice_get marks y.0.place ≡ Some false =
    ap (slice_get marks) y.2 ∙ slice_get_read marks (length marks) a.place c.index.result.now refl (omega (arith, within, y.2)) c.index.ensures ∙ ap (λ (b : Bool). Some b) c.if-not-index.true in (
      y.0,
      y.1,
      y.2,
      record {
        only = λ x there. absurd (let gone = subst (λ (l : List SortedEdge). Contains l x) c.new.ensures.items there in omega (arith, gone.1));
        all = λ x there m early.
            let at = place_of a.sorted.now x there in
            absurd (unmarked_alone a.cells.now a.sorted.now c.requires.ascending a.splits.now.shorter.items marks c.requires.splits.many c.requires.splits.shorter c.requires.splits.marks
            own.0 y.0 own.1 unmarked at.0 x at.1 m (omega (arith, early, y.2)));
        ascending = IsNonDecreasingBy-short (λ (x : SortedEdge). x.place) _ (let none = ap length c.new.ensures.items in omega (arith, none));
      },
    )

-- the position that is read is that of an edge with the place
read_position : (sorted : List SortedEdge) (positions : List ℕ) → ArePositions sorted positions → (place : ℕ) → (x : SortedEdge) × Contains sorted x × (x.place ≡ place) → (r : ℕ) → r ≡ get_or positions place r
    → (y : SortedEdge) × (slice_get sorted r ≡ Some y) × (y.place ≡ place)
read_position sorted positions h place x r is =
    let p = h x.0 x.1 in
    let within : x.0.place < length positions = slice_get_within positions x.0.place p.0 p.2 in
    let r_at = slice_get_read positions (length positions) place r refl (omega (arith, within, x.2)) is in
    let same : p.0 ≡ r = same_place positions place p.0 r (ap (slice_get positions) (sym x.2) ∙ p.2) r_at in
    (p.1, ap (slice_get sorted) (sym same) ∙ p.3, p.4 ∙ x.2)

pub index-requires-2 : goal.index-requires-2
index-requires-2 c =
    let x = c.requires.there in
    let p = c.requires.splits.positions x.0 x.1 in
    let within = slice_get_within c.args.splits.now.positions.items x.0.place p.0 p.2 in
    omega (arith, within, x.2, c.args.splits.now.positions.ok.0)

pub bounds-sorted-position : goal.bounds-sorted-position
bounds-sorted-position c =
    let y = read_position c.args.sorted.now c.args.splits.now.positions.items c.requires.splits.positions c.args.place c.requires.there c.index-2.result.now c.index-2.ensures in
    slice_get_within c.args.sorted.now c.index-2.result.now y.0 y.1

pub splits_at-requires-clause-within : goal.splits_at-requires-clause-within
splits_at-requires-clause-within c =
    let y = read_position c.args.sorted.now c.args.splits.now.positions.items c.requires.splits.positions c.args.place c.requires.there c.index-2.result.now c.index-2.ensures in
    slice_get_within c.args.sorted.now c.index-2.result.now y.0 y.1

pub returns : goal.returns
returns c =
    let a = c.args in
    let sorted = a.sorted.now in
    let position = c.index-2.result.now in
    let y = read_position sorted a.splits.now.positions.items c.requires.splits.positions a.place c.requires.there position c.index-2.ensures in
    let own = is_at sorted position (slice_get_within sorted position y.0 y.1) in
    let limit : (edge_at sorted position).place ≡ y.0.place = ap (λ (x : SortedEdge). x.place) (same_place sorted position (edge_at sorted position) y.0 own y.1) in (
      y.0,
      contained sorted position y.0 y.1,
      y.2,
      subst (λ (n : ℕ). AreEarlier a.cells.now sorted (cells_of a.cells.now y.0) n c.sort_unstable_by_key.new.self.items) y.2
          (earlier_of_others a.cells.now sorted position y.0 y.1 c.in_ok-found.found.items c.sort_unstable_by_key.new.self.items
          (subst (λ (n : ℕ). AreOthers a.cells.now sorted position n y.0 c.in_ok-found.found.items) limit (c.in_ok-found.ensures y.0 y.1))
          c.sort_unstable_by_key.ensures.permutation
          (IsNonDecreasingBy-from_sort_by_key (λ (x : SortedEdge). x.place) _ c.sort_unstable_by_key.ensures.sorted (λ b r q k. search rules))),
    )
