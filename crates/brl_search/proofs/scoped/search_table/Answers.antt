use Rattle.brl_search.proofs.FoundFor.{found_plainly}
use Rattle.brl_search.proofs.scoped.search_table.Goals as goal

pub returns-then-is_nothing : goal.returns-then-is_nothing
returns-then-is_nothing g c =
    let found = c.in_ok-found.ensures.found in
    record {
      found_for = found_plainly c.args.scope.left_out.now c.args.scope.excused.now c.args.table.now c.args.limit (c.is_nothing.ensures.0 c.if-is_nothing.true) c.in_ok-found.found found;
      plainly = λ nothing. found;
      small = λ nothing. c.in_ok-found.ensures.small;
    }
