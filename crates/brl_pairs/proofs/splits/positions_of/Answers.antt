use Rattle.std.proofs.Common.{◌≡◌, ◌≢◌, ◌<◌, ℕ, List, inl, inr, length, Some, slice_get, sym, ◌∙◌, ap, arith, length-set, set, get_or-set_other, get_or-set_same}
use Rattle.std.proofs.lemmas.Bool.{cases_eq}
use Rattle.std.proofs.lemmas.Option.{get_or_from_slice_get, slice_get-get_or, slice_get_within}
use Rattle.brl_pairs.specs.declared.sorted.SortedEdge.{SortedEdge}
use Rattle.brl_pairs.proofs.Lists.{same_place}
use Rattle.brl_pairs.proofs.Numbered.{contained, place_of}
use Rattle.brl_pairs.proofs.SortedLaws.{edge_at, is_at}
use Rattle.brl_pairs.proofs.splits.positions_of.Goals as goal

pub index_mut-requires : goal.index_mut-requires
index_mut-requires c =
    let sorted = c.args.sorted.now in
    let x = edge_at sorted c.loop-position.position in
    let at = is_at sorted c.loop-position.position (omega arith) in
    omega (arith, c.requires x (contained sorted c.loop-position.position x at), c.loop-position.invariant.many, c.loop-position.positions.ok.0)

pub loop-position-preserved : goal.loop-position-preserved
loop-position-preserved c =
    let sorted = c.args.sorted.now in
    let old = c.loop-position.positions.items in
    let position = c.loop-position.position in
    let v = c.in_ok-number.number in
    let e = edge_at sorted position in
    let e_at : slice_get sorted position ≡ Some e = is_at sorted position (omega arith) in
    let new_at : slice_get sorted v ≡ Some e = ap (slice_get sorted) c.in_ok-number.ensures ∙ e_at in
    let many : length old ≡ c.args.count = c.loop-position.invariant.many in
    let e_within : e.place < length old = (let less = c.requires e (contained sorted position e e_at) in omega (arith, less, many)) in
    record {
      many = length-set old e.place v ∙ many;
      each = λ n x less x_at. elim (cases_eq x.place e.place) [
        | inl same ↦ (v, e, ap (slice_get (set old e.place v)) same ∙ written old e.place v e_within, new_at, sym same)
        | inr other ↦ elim (cases_eq n position) [
          | inl here ↦ absurd (other (ap (λ (z : SortedEdge). z.place) (same_place sorted position x e (ap (slice_get sorted) (sym here) ∙ x_at) e_at)))
          | inr before ↦ (let p = c.loop-position.invariant.each n x (omega (arith, less, before)) x_at in (p.0, p.1, unwritten old e.place v x.place p.0 other p.2, p.3, p.4))
        ]
      ];
    }
  where
    written : (xs : List ℕ) (i v : ℕ) → i < length xs → slice_get (set xs i v) i ≡ Some v
    written xs i v within = slice_get-get_or (set xs i v) i 0 (omega (arith, length-set xs i v, within)) ∙ ap (λ (n : ℕ). Some n) (get_or-set_same xs i v 0 within)

    unwritten : (xs : List ℕ) (i v j k : ℕ) → j ≢ i → slice_get xs j ≡ Some k → slice_get (set xs i v) j ≡ Some k
    unwritten xs i v j k other at =
        let within : j < length xs = slice_get_within xs j k at in
        slice_get-get_or (set xs i v) j 0 (omega (arith, length-set xs i v, within)) ∙ ap (λ (n : ℕ). Some n) (get_or-set_other xs i j v 0 other ∙ get_or_from_slice_get xs j k 0 at)

pub returns : goal.returns
returns c = λ x there.
    let k = place_of c.args.sorted.now x there in
    c.loop-position.invariant.each k.0 x (let within = slice_get_within c.args.sorted.now k.0 x k.1 in omega (arith, within)) k.1
