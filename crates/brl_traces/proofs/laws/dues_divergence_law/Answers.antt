use Rattle.brl_traces.proofs.Traces.{clashes-diverge, clashes-diverge-without}
use Rattle.brl_traces.proofs.laws.dues_divergence_law.Goals as goal

pub returns-clause-texts : goal.returns-clause-texts
returns-clause-texts c rules = clashes-diverge c.args.table.now c.dues_trace_law.ensures.diverge rules

pub returns-clause-without : goal.returns-clause-without
returns-clause-without c left_out rules = clashes-diverge-without c.args.table.now c.dues_trace_law.ensures.diverge rules left_out
