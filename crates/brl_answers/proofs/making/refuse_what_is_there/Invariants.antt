use Rattle.std.proofs.Common.{take}
use Rattle.brl_answers.specs.Making.{AreNew}
use Rattle.brl_answers.proofs.making.refuse_what_is_there.Given as goal

-- the files so far are new
abbrev pub invariant-loop-place : goal.invariant-loop-place
invariant-loop-place g l = AreNew (g.F.Source.gives l.files) (take l.place l.new)
