use Rattle.std.proofs.Common.{◌≡◌}
use Rattle.brl_contexts.specs.Forms.{reads_of}
use Rattle.brl_contexts.specs.Named.{StillCarries, StillNames}
use Rattle.brl_contexts.proofs.forms.number_steps.Given as goal
use Rattle.brl_pairs.specs.Listed.{AreListedEdges}

abbrev pub invariant-loop-step : goal.invariant-loop-step
invariant-loop-step g l = record {
  edges : AreListedEdges l.named.states l.named.cells l.yielded l.edges.items;
  reads : l.reads.items ≡ reads_of l.yielded;
  names : StillNames l.fn.named l.named;
  carries : StillCarries l.fn.named l.named;
}
