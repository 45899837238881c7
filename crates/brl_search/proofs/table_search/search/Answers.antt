use Rattle.std.proofs.Common.{List, ℕ, subst}
use Rattle.std.proofs.lemmas.Result.{IfOk-weaker}
use Rattle.brl_search.specs.Found.{IsFound, IsFoundWithout}
use Rattle.brl_search.proofs.TableSearch.{found_all}
use Rattle.brl_search.proofs.table_search.search.Goals as goal

pub returns-clause-found : goal.returns-clause-found
returns-clause-found c =
    let t = c.args.table.now in
    let limit = c.args.limit in
    IfOk-weaker c.find.result (IsFoundWithout c.none-left_out.result t limit) (IsFound t limit)
    (λ found h. found_all t limit found (subst (λ (left_out : List ℕ). IsFoundWithout left_out t limit found) c.none-left_out.ensures h))
    c.find.ensures.found

pub returns-clause-unambiguous : goal.returns-clause-unambiguous
returns-clause-unambiguous c =
    let t = c.args.table.now in
    let limit = c.args.limit in
    IfOk-weaker c.find.result (IsFoundWithout c.none-left_out.result t limit) _
    (λ found h. (found_all t limit found (subst (λ (left_out : List ℕ). IsFoundWithout left_out t limit found) c.none-left_out.ensures h)).unambiguous)
    c.find.ensures.found
