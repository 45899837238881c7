use Rattle.std.proofs.Common.{take}
use Rattle.brl_unused.specs.Marking.{LeadToLive}
use Rattle.brl_unused.proofs.graph.lead_to_live.Given as goal

abbrev pub invariant-loop-edge : goal.invariant-loop-edge
invariant-loop-edge l = LeadToLive (take l.edge-index l.edges) l.live → ⊥
