use Rattle.brl_tool.specs.Remarks.{NoneIsLike}
use Rattle.brl_tool.proofs.remarks.first_alike.Given as goal

-- none of the rules so far is like this one
abbrev pub invariant-loop-number : goal.invariant-loop-number
invariant-loop-number l = NoneIsLike l.rules l.rule l.number
