use Rattle.brl_slips.specs.Slips.{AreSlips}
use Rattle.brl_slips.proofs.findings.judge_all.Given as goal

abbrev pub invariant-loop-entry : goal.invariant-loop-entry
invariant-loop-entry l = AreSlips l.lexicon l.entry l.slips.items
