use Rattle.std.proofs.Common.{take}
use Rattle.brl_answers.specs.Making.{AreWritten}
use Rattle.brl_answers.proofs.making.make_files.Given as goal

-- the files so far are made
abbrev pub invariant-loop-place : goal.invariant-loop-place
invariant-loop-place g l = AreWritten (take l.place l.new) (g.F.Source.gives l.initial.files) (g.F.Source.gives l.files)
