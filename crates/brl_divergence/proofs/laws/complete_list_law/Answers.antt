use Rattle.std.specs.Prelude.{slice_get}
use Rattle.brl_pairs.specs.Sets.{pair_at}
use Rattle.brl_divergence.specs.Listed.{rules_of}
use Rattle.brl_divergence.proofs.Complete.{complete_list}
use Rattle.brl_divergence.proofs.laws.complete_list_law.Goals as goal

pub returns : goal.returns
returns g c exact limit list body listed complete =
    complete_list (g.M.Machine.behaviour c.args.machine.now) exact list listed
    (c.numbered_divergence_law.ensures.texts (rules_of list) (slice_get body.states) (pair_at body) complete.closed)
