use Rattle.std.proofs.Common.{subst}
use Rattle.brl_rules.specs.Limits.{IsTable}
use Rattle.brl_window.proofs.Accepting.{accepts}
use Rattle.brl_states.proofs.Kept.{keeps_of}
use Rattle.brl_window.proofs.Kept.{Choosing}
use Rattle.brl_window.proofs.Ordering.{good_steps, in_order}
use Rattle.brl_window.proofs.machine.WindowMachine.start.Goals as goal
use Rattle.brl_rules.proofs.OneByOne.{translating}

pub returns-clause-laws : goal.returns-clause-laws
returns-clause-laws c =
    let t = c.args.self.now in
    let keeps = keeps_of t (subst IsTable c.self.view_is c.law.ensures) in
    let choosing : Choosing c.args.self.now = record { some = c.choice_laws.ensures.some t; room = c.choice_laws.ensures.room t } in
    record { good_steps = good_steps t keeps choosing; in_order = in_order t keeps; accepts = accepts t choosing (translating c.translation_laws.ensures.rest c.translation_laws.ensures.end c.translation_laws.ensures.rule t) }
