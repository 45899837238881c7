use Rattle.std.proofs.Common.{◌≡◌, filter, map, take}
use Rattle.brl_states.specs.DuesContext.{context_of}
use Rattle.brl_dues.specs.Capitals.{letters}
use Rattle.brl_dues.specs.Letters.{may_come}
use Rattle.brl_dues.specs.Parts.{asked_context, part_in}
use Rattle.brl_dues.proofs.parts.find_parts.Given as goal

abbrev pub invariant-loop-number : goal.invariant-loop-number
invariant-loop-number l = l.parts.items ≡ map (part_in (asked_context l.table (context_of l.state)) l.state.dues) (filter (may_come l.table l.state.dues) (take l.number (letters l.table)))
