use Rattle.std.proofs.Common.{ℕ, List, IfOk, subst₂}
use Rattle.brl_search.specs.Scoped.{IsSearched}
use Rattle.brl_tool.proofs.search.found_but_for.Goals as goal

pub returns : goal.returns
returns g c =
    let but_for = c.args.but_for in
    subst₂ (λ (cs : List ℕ) (n : ℕ). IfOk c.search_table.result (IsSearched cs but_for.excusal.now.excused c.args.table.now n)) c.requires c.from.ensures c.search_table.ensures
