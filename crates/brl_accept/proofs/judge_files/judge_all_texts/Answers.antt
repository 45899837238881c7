use Rattle.std.proofs.Common.{List, ℕ, IfErr, IfOk, subst, sym}
use Rattle.std.proofs.lemmas.Result.{IfErr-weaker, IfOk-weaker, on_ok_weaker}
use Rattle.brl_accept.specs.Judging.{IsAcceptedFor, IsRefusedFor, closed_without}
use Rattle.brl_failure.specs.Failure.{IfFault}
use Rattle.brl_failure.specs.Raised.{if_fault-weaker}
use Rattle.brl_without.specs.Itself.{unambiguous-none}
use Rattle.brl_without.specs.Scope.{IsNothing}
use Rattle.brl_without.specs.Tables.{IsUnambiguousWithout}
use Rattle.brl_accept.proofs.Judged.{excused_accepted, plainly_accepted, plainly_refused}
use Rattle.brl_accept.proofs.judge_files.judge_all_texts.Goals as goal

pub returns : goal.returns
returns c =
    let t = c.args.table.now in
    let bytes = c.args.cert.now in
    let left_out = c.none-left_out.result in
    let excused = c.nothing-excused.result in
    let nothing : IsNothing excused = (c.nothing-excused.ensures.accepted, c.nothing-excused.ensures.exchanged) in
    let none = c.none-left_out.ensures in
    let result = c.judge_table.result in
    let told = c.judge_table.ensures in
    record {
      unambiguous = on_ok_weaker result (λ shown. unambiguous-none t (subst (λ (cs : List ℕ). IsUnambiguousWithout cs t) none (shown.1 nothing))) told.shown;
      accepted = subst (λ (cs : List ℕ). IfOk result (IsAcceptedFor (closed_without cs) t bytes)) none
          (IfOk-weaker result _ _ (λ accepted h. plainly_accepted left_out excused nothing t bytes accepted h) told.accepted);
      refused = subst (λ (cs : List ℕ). IfErr result (IfFault (IsRefusedFor (closed_without cs) t bytes))) none
          (IfErr-weaker result _ _ (λ failure h. if_fault-weaker _ _ failure (plainly_refused left_out excused nothing t bytes) h) told.refused);
      decides = λ accepted deserved.
          told.decides accepted (excused_accepted left_out excused nothing t bytes accepted (subst (λ (cs : List ℕ). IsAcceptedFor (closed_without cs) t bytes accepted) (sym none) deserved));
    }
