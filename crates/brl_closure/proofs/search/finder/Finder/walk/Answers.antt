use Rattle.std.proofs.Common.{◌<◌, ◌∙◌, length, List, Some, refl, sym, ap, subst, arith}
use Rattle.std.proofs.lemmas.Option.{slice_get_within}
use Rattle.brl_pairs.specs.Sorted.{AreSortedEdges}
use Rattle.brl_pairs.specs.declared.sorted.SortedEdge.{SortedEdge}
use Rattle.brl_closure.specs.Trail.{IsMoveOf}
use Rattle.brl_closure.proofs.Adding.{adds_none}
use Rattle.brl_closure.proofs.search.finder.Finder.walk.Goals as goal
use Rattle.brl_pairs.proofs.Lists.{read_at, same_place}

pub find_moves-requires-clause-pair : goal.find_moves-requires-clause-pair
find_moves-requires-clause-pair g c =
    let within : c.args.number < length c.args.trail.now.pairs = slice_get_within c.args.trail.now.pairs c.args.number c.requires.pair.0 c.requires.pair.1 in
    let same = ap length c.as_slice.ensures.members in
    read_at c.as_slice.result.now c.args.trail.now.pairs c.args.number c.index-as_slice-number.result c.as_slice.ensures.members (omega (arith, within, same)) c.index-as_slice-number.is
    ∙ ap Some (sym c.in_ok-pair.ensures)

pub find_moves-requires-clause-edges : goal.find_moves-requires-clause-edges
find_moves-requires-clause-edges g c =
    let within : c.args.number < length c.args.trail.now.pairs = slice_get_within c.args.trail.now.pairs c.args.number c.requires.pair.0 c.requires.pair.1 in
    let same = ap length c.as_slice.ensures.members in
    let at = read_at c.as_slice.result.now c.args.trail.now.pairs c.args.number c.index-as_slice-number.result c.as_slice.ensures.members (omega (arith, within, same)) c.index-as_slice-number.is
    ∙ ap Some (sym c.in_ok-pair.ensures) in
    let is = same_place c.args.trail.now.pairs c.args.number c.requires.pair.0 c.in_ok-pair.pair c.requires.pair.1 at in
    let expanded : c.in_ok-pair.pair.behind < length c.args.expanded.now = subst (λ p. p.behind < length c.args.expanded.now) is c.requires.pair.2 in
    subst (λ (sorted : List SortedEdge). AreSortedEdges (g.M.Machine.behaviour c.args.self.now.machine.now) c.args.trail.now.states c.in_ok-pair.pair.behind c.args.cells.now sorted) (sym c.as_slice-sorted.ensures.value)
    (c.requires.edges c.in_ok-pair.pair.behind c.index-expanded-pair.result (read_at c.args.expanded.now c.args.expanded.now c.in_ok-pair.pair.behind c.index-expanded-pair.result refl expanded c.index-expanded-pair.is))

pub returns-in_err-pair-clause-adds : goal.returns-in_err-pair-clause-adds
returns-in_err-pair-clause-adds g c = adds_none (IsMoveOf c.args.number) c.args.trail.now c.args.trail.now refl refl refl refl

pub bounds-expanded-pair : goal.bounds-expanded-pair
bounds-expanded-pair g c =
    let within : c.args.number < length c.args.trail.now.pairs = slice_get_within c.args.trail.now.pairs c.args.number c.requires.pair.0 c.requires.pair.1 in
    let same = ap length c.as_slice.ensures.members in
    let at = read_at c.as_slice.result.now c.args.trail.now.pairs c.args.number c.index-as_slice-number.result c.as_slice.ensures.members (omega (arith, within, same)) c.index-as_slice-number.is
    ∙ ap Some (sym c.in_ok-pair.ensures) in
    let is = same_place c.args.trail.now.pairs c.args.number c.requires.pair.0 c.in_ok-pair.pair c.requires.pair.1 at in
    subst (λ p. p.behind < length c.args.expanded.now) is c.requires.pair.2
