use Rattle.brl_table.proofs.OneTable.{one_table, no_fault}
use Rattle.brl_table.proofs.files.one_table_law.Goals as goal

pub returns-clause-table : goal.returns-clause-table
returns-clause-table g c one root = one_table (g.S.Source.gives c.args.source.now) root (c.one_answer_law.ensures.lines one root)

pub returns-clause-fault : goal.returns-clause-fault
returns-clause-fault g c one root t is =
    no_fault (g.S.Source.gives c.args.source.now) root (c.one_answer_law.ensures.lines one root)
    (λ lines. (c.good_lines_law.ensures lines).1) t is (c.one_answer_law.ensures.fault one root)
