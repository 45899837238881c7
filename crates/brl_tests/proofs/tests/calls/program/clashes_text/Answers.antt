use Rattle.brl_clashes.proofs.Verdicts.{left_are_clashes}
use Rattle.brl_tests.proofs.tests.calls.program.clashes_text.Goals as goal

-- the texts of the clashes that are left clash by the table
pub sections_text-requires : goal.sections_text-requires
sections_text-requires c =
    left_are_clashes c.args.table.now _ _ _ c.in_ok-sections.sections.items c.in_ok-left.left.items c.in_ok-sections.ensures c.in_ok-left.ensures
