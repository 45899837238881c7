use Rattle.std.proofs.Common.{arith}
use Rattle.std.proofs.lemmas.List.{length-map}
use Rattle.std.proofs.lemmas.Option.{slice_get_within}
use Rattle.brl_pairs.specs.Listed.{edge_of, edges_with}
use Rattle.brl_pairs.proofs.Lists.{inside}
use Rattle.brl_tests.proofs.tests.machines.sorted.sorted_edges.Goals as goal

pub returns-clause-places : goal.returns-clause-places
returns-clause-places c = λ x there.
    let own = c.in_ok-sort_edges.ensures.by_numbers.only x there in
    let within = slice_get_within (edges_with c.args.kept.now c.args.edges.now) x.place own.edge own.at in
    omega (arith, within, length-map c.args.edges.now (edge_of c.args.kept.now))

pub returns-clause-all : goal.returns-clause-all
returns-clause-all c = λ place lt.
    let e = inside (edges_with c.args.kept.now c.args.edges.now) place (omega (arith, lt, length-map c.args.edges.now (edge_of c.args.kept.now))) in
    c.in_ok-sort_edges.ensures.by_numbers.all place e.0 e.1
