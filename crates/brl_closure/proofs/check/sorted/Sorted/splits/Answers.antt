use Rattle.std.proofs.Common.{List, subst, arith}
use Rattle.std.specs.Prelude.{Contains}
use Rattle.std.proofs.lemmas.List.{length-map}
use Rattle.std.proofs.lemmas.Option.{slice_get_within}
use Rattle.brl_pairs.specs.Listed.{edge_of}
use Rattle.brl_pairs.specs.declared.sorted.SortedEdge.{SortedEdge}
use Rattle.brl_closure.proofs.check.sorted.Sorted.splits.Goals as goal

pub splits_of-requires-clause-places : goal.splits_of-requires-clause-places
splits_of-requires-clause-places c = λ x there.
    let s = c.self.inside in
    let own = c.self.invariant.by_numbers.only x (subst (λ (l : List SortedEdge). Contains l x) c.as_slice-2.ensures.value there) in
    let within = slice_get_within _ x.place own.edge own.at in
    omega (arith, within, length-map s.edges.items (edge_of s.cells.now), c.len.ensures, s.edges.ok.0)
