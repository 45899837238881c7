use Rattle.std.proofs.Common.{◌∙◌, inl, sym}
use Rattle.brl_search.proofs.FoundFor.{first_clash, whole_excused}
use Rattle.brl_search.proofs.scoped.search_excusing.Goals.{in-Complete+in-Some, in-Complete+in-None, in-Partial}
use Rattle.brl_search.proofs.scoped.search_excusing.Goals as goal

pub check_body-requires : goal.check_body-requires
check_body-requires g c =
    let left_out = c.args.scope.left_out.now in
    let t = c.args.table.now in
    let list = c.in-Complete.list.items in
    let are = rw c.in-Complete.is at c.in_ok-list.ensures in (
      c.args.limit,
      whole_excused c.args.scope.excused.now left_out t c.args.limit list (λ exchanged accepted body whole has. c.accepted_list_law.ensures left_out t c.args.limit list body exchanged accepted whole has)
          (sym c.first_beside.ensures ∙ c.in-None.is) c.in-Complete.body are.1,
    )

pub returns : goal.returns
returns g c =
    let excused = c.args.scope.excused.now in
    let left_out = c.args.scope.left_out.now in
    let t = c.args.table.now in
    let limit = c.args.limit in
    elim c.match-branch-2.branch [
      | in-Complete+in-Some w ↦ (
          let are = rw w.in-Complete.is at c.in_ok-list.ensures in
          rw w.result-is (first_clash excused left_out t limit w.in-Complete.list.items are.0 (inl (w.in-Complete.body, are.1)) w.in-Some.it (sym w.first_beside.ensures ∙ w.in-Some.is)))
      | in-Complete+in-None w ↦ (
          let are = rw w.in-Complete.is at c.in_ok-list.ensures in
          let list = w.in-Complete.list.items in
          rw w.result-is (w.check_body.ensures limit
          (whole_excused excused left_out t limit list (λ exchanged accepted body whole has. w.accepted_list_law.ensures left_out t limit list body exchanged accepted whole has)
          (sym w.first_beside.ensures ∙ w.in-None.is) w.in-Complete.body are.1)))
      | in-Partial w ↦ (
          let are = rw w.in-Partial.is at c.in_ok-list.ensures in
          rw w.result-is (w.found_so_far.ensures left_out t limit are))
    ]
