use Rattle.std.proofs.Common.{arith, sym, ap, ◌∙◌, Some, All, IsTrue, subst}
use Rattle.std.specs.Prelude.{IfSome}
use Rattle.std.proofs.lemmas.List.Elements.{All-push}
use Rattle.brl_cert.specs.Dues.{lenient_due}
use Rattle.brl_states.specs.Order.{is_proper}
use Rattle.brl_cert.proofs.Each.{each_more, each_none}
use Rattle.brl_cert.proofs.dues_line.read_each_due.Goals as goal

pub returns-in_default-clause-dues : goal.returns-in_default-clause-dues
returns-in_default-clause-dues c = sym (each_none lenient_due (λ field. field.now) c.args.fields.now c.loop-field.field-index _ (omega arith) (sym c.in_ok-due.ensures.due ∙ c.in_default.is))

pub loop-field-preserved : goal.loop-field-preserved
loop-field-preserved c = record {
  found =
      each_more lenient_due (λ field. field.now) c.args.fields.now c.loop-field.field-index _ c.loop-field.dues.items c.in-Some.due (omega arith) c.loop-field.invariant.found (sym c.in_ok-due.ensures.due ∙ c.in-Some.is)
      ∙ ap (λ dues. Some dues) (sym c.in_ok-push.ensures.items);
  proper = subst (All (λ due. IsTrue (is_proper due))) (sym c.in_ok-push.ensures.items) (All-push (λ due. IsTrue (is_proper due)) c.loop-field.dues.items c.in-Some.due c.loop-field.invariant.proper (subst (λ found. IfSome found (λ due. IsTrue (is_proper due))) c.in-Some.is c.in_ok-due.ensures.proper));
}
