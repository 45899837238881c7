use Rattle.std.proofs.Common.{sym, subst}
use Rattle.brl_pairs.specs.Listed.{edges_with}
use Rattle.brl_closure.specs.Alike.{AreFirstTwo}
use Rattle.brl_closure.proofs.FirstTwo.{all_kept}
use Rattle.brl_closure.proofs.check.kinds.sort_first_two.Goals as goal

pub returns-then-not-has_three_alike-clause-first_two : goal.returns-then-not-has_three_alike-clause-first_two
returns-then-not-has_three_alike-clause-first_two c =
    let edges = edges_with c.args.cells.now c.args.edges.items in
    subst (AreFirstTwo c.args.excused.now edges) (sym c.new.ensures.edges) (all_kept c.args.excused.now edges)
