use Rattle.std.proofs.Common.{◌∙◌, ap, arith, inl, inr, slice_get, subst, sym}
use Rattle.std.proofs.lemmas.Bool.{cases_eq}
use Rattle.std.proofs.lemmas.Option.{slice_get_within}
use Rattle.brl_pairs.specs.Shared.{IsTwoOf}
use Rattle.brl_pairs.specs.declared.sorted.SortedEdge.{SortedEdge}
use Rattle.brl_pairs.proofs.Lists.{same_place}
use Rattle.brl_pairs.proofs.Numbered.{contained, place_of}
use Rattle.brl_pairs.proofs.SortedLaws.{edge_at, is_at}
use Rattle.brl_pairs.proofs.shared.push_splits.Goals as goal

pub loop-other-preserved : goal.loop-other-preserved
loop-other-preserved c =
    let place = c.args.place in
    let found = c.args.found.now in
    let k = c.loop-other.other-index in
    let x = edge_at found k in
    let x_at = is_at found k c.loop-other-test.true in
    let old = c.loop-other.invariant in
    let pushed = c.in_ok-push_split.ensures in
    record {
      only = λ split there. elim (pushed.only split there) [ inl was ↦ old.only split was | inr two ↦ inr (x, contained found k x x_at, two) ];
      kept = λ split there. pushed.kept split (old.kept split there);
      added = λ j y split less y_at two. elim (cases_eq j k) [
        | inl here ↦ pushed.added split (subst (λ (z : SortedEdge). IsTwoOf place z.place split) (same_place found k y x (ap (slice_get found) (sym here) ∙ y_at) x_at) two)
        | inr other ↦ pushed.kept split (old.added j y split (omega (arith, less, other)) y_at two)
      ];
    }

pub returns-clause-added : goal.returns-clause-added
returns-clause-added c = λ x split there two.
    let found = c.args.found.now in
    let at = place_of found x there in
    c.loop-other.invariant.added at.0 x split (let within = slice_get_within found at.0 x at.1 in omega (arith, within, c.loop-other-test.false)) at.1 two
