use Rattle.brl_lines.proofs.AnswerLemmas.{one_list, only_memory}
use Rattle.brl_lines.proofs.laws.one_answer_law.Goals as goal

pub returns-clause-lines : goal.returns-clause-lines
returns-clause-lines g c one root left right h k = one_list (g.S.Source.gives c.args.source.now) one root left h right k

pub returns-clause-fault : goal.returns-clause-fault
returns-clause-fault g c one root lines h fault k = only_memory (g.S.Source.gives c.args.source.now) one root lines h fault k
