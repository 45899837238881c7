use Rattle.brl_dues.specs.Finite.{all_leads, all_states}
use Rattle.brl_dues.specs.Steps.{dues_machine}
use Rattle.brl_closure.proofs.Listed.{few_pairs, few_states, lead_listed, pair_listed, state_listed}
use Rattle.brl_search.proofs.OfDues.{lists_hold}
use Rattle.brl_search.proofs.dues_laws.dues_reached_law.Goals as goal

pub returns-clause-states : goal.returns-clause-states
returns-clause-states c t s reached =
    let holds = lists_hold t (c.finite_law.ensures.start t) (c.finite_law.ensures.steps t) (c.finite_law.ensures.leads t) in
    state_listed (dues_machine t) (all_states t) (all_leads t) holds reached

pub returns-clause-dues : goal.returns-clause-dues
returns-clause-dues c t s due reached there =
    let holds = lists_hold t (c.finite_law.ensures.start t) (c.finite_law.ensures.steps t) (c.finite_law.ensures.leads t) in
    c.finite_law.ensures.dues t s due (state_listed (dues_machine t) (all_states t) (all_leads t) holds reached) there

pub returns-clause-leads : goal.returns-clause-leads
returns-clause-leads c t p reached =
    let holds = lists_hold t (c.finite_law.ensures.start t) (c.finite_law.ensures.steps t) (c.finite_law.ensures.leads t) in
    lead_listed (dues_machine t) (all_states t) (all_leads t) holds reached

pub returns-clause-pairs : goal.returns-clause-pairs
returns-clause-pairs c t p reached =
    let holds = lists_hold t (c.finite_law.ensures.start t) (c.finite_law.ensures.steps t) (c.finite_law.ensures.leads t) in
    pair_listed (dues_machine t) (all_states t) (all_leads t) holds reached

pub returns-clause-few_states : goal.returns-clause-few_states
returns-clause-few_states c t =
    let holds = lists_hold t (c.finite_law.ensures.start t) (c.finite_law.ensures.steps t) (c.finite_law.ensures.leads t) in
    few_states (dues_machine t) (all_states t) (all_leads t) holds

pub returns-clause-few_pairs : goal.returns-clause-few_pairs
returns-clause-few_pairs c t =
    let holds = lists_hold t (c.finite_law.ensures.start t) (c.finite_law.ensures.steps t) (c.finite_law.ensures.leads t) in
    few_pairs (dues_machine t) (all_states t) (all_leads t) holds
