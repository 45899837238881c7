use Rattle.std.proofs.Common.{◌≡◌, ◌∙◌, ℕ, List, subst, subst₂}
use Rattle.brl_closure.specs.Excusing.{IsRefusedUpTo}
use Rattle.brl_dues.specs.Steps.{dues_machine}
use Rattle.brl_failure.specs.Failure.{IfFault}
use Rattle.brl_failure.specs.declared.failure.Failure.{Failure}
use Rattle.brl_failure.specs.declared.failure.Failure.TheVariants.{Fault, Memory}
use Rattle.brl_pairs.specs.Exchanges.{IsClosedUpTo, TextsDifferByExchangesBut}
use Rattle.brl_pairs.specs.Sets.{sets_of}
use Rattle.brl_rules.specs.TableView.{TableView}
use Rattle.brl_without.specs.Without.{without}
use Rattle.brl_search.proofs.scoped.check_body.Goals as goal

-- what holds of a fault, where a failure is one
given : {E : Type 0} (P : E → Type 0) (failure : Failure E) (fault : E) → failure ≡ Fault fault → IfFault P failure → P fault
given P (Fault found) fault is h = let same : found ≡ fault = cc in subst P same h
given P Memory fault is h = absurd cc

pub returns-in-Ok : goal.returns-in-Ok
returns-in-Ok g c limit are =
    let excused = c.args.scope.excused.now in
    let is_table = c.new-machine.ensures.machine ∙ c.new-dues.ensures.table in
    let texts = subst₂ (λ (cs : List ℕ) (t : TableView). TextsDifferByExchangesBut excused.exchanged excused.accepted (without cs (dues_machine t))) c.new-machine.ensures.left_out is_table c.in-Ok.ensures.texts in
    record {
      closed = subst₂ (λ (cs : List ℕ) (t : TableView). IsClosedUpTo (without cs (dues_machine t)) excused.exchanged excused.accepted (sets_of c.args.body)) c.new-machine.ensures.left_out is_table c.in-Ok.ensures.closed;
      agree = c.dues_exchange_law.ensures c.args.scope.left_out.now excused.exchanged excused.accepted texts;
      within = are.within;
    }

pub returns-in-Err-Fault : goal.returns-in-Err-Fault
returns-in-Err-Fault g c limit are =
    let excused = c.args.scope.excused.now in
    let is_table = c.new-machine.ensures.machine ∙ c.new-dues.ensures.table in
    let fault = c.in-Err-Fault.fault in
    let is = c.in-Err-Fault.field-0-is in
    let unclosed = given _ c.in-Err-Fault.field-0 fault is c.in-Err-Fault.ensures.not_closed in
    record {
      some = λ nothing.
          subst₂ (λ (cs : List ℕ) (t : TableView). IsClosedUpTo (without cs (dues_machine t)) excused.exchanged excused.accepted (sets_of c.args.body) → ⊥) c.new-machine.ensures.left_out is_table unclosed (are.closed nothing);
      no_other = are.no_other;
      body = c.args.body;
      shown = are.shown;
      refused = subst₂ (λ (cs : List ℕ) (t : TableView). IsRefusedUpTo (without cs (dues_machine t)) excused c.args.body fault) c.new-machine.ensures.left_out is_table
          (given _ c.in-Err-Fault.field-0 fault is c.in-Err-Fault.ensures.refused);
    }
